pub mod Extents
pub mod Apart
pub mod Arenas
pub mod Parts
pub mod Claimable
pub mod Disjoint
pub mod Steps
pub mod ReadInTurn
pub mod LoadedInTurn
pub mod PutBack
pub mod PutInTurn
pub mod Firsts
mod Rows
