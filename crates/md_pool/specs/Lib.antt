pub mod Claims
pub mod Rules
