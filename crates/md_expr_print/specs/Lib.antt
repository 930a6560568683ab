pub mod Literals
pub mod Spell
