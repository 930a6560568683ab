pub mod FileAnswers
pub mod Folders
pub mod Findings
pub mod Reports
pub mod Additions
pub mod Tables
