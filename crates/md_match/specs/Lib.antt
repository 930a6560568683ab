pub mod Meets
pub mod Satisfies
pub mod Forms
pub mod Conditions
pub mod Ready
pub mod Candidates
