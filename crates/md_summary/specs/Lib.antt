pub mod Printed
pub mod Summary
