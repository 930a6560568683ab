pub mod Edges
pub mod Plans
pub mod FoundPlaces
pub mod Hits
