mod InTime
