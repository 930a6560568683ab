pub mod Verdict
pub mod Reader
pub mod Printed
