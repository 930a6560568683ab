pub mod Kinds
pub mod Pendings
pub mod Listed
pub mod Laws
