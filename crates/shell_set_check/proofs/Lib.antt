pub mod Groups
pub mod Said
pub mod Parts
pub mod Repaired
pub mod RepairedSet
pub mod Loads
