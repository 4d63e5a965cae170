pub mod Reached
pub mod Since
pub mod OneStep
pub mod Left
pub mod ByWord
mod Rows
pub mod Stays
pub mod Guarded
pub mod Bytes
pub mod Put
pub mod Making
