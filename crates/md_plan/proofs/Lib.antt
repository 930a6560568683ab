pub mod Edges_met
pub mod Trees
pub mod Sets
pub mod Among
