pub mod Source
pub mod Moves
