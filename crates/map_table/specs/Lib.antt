pub mod Entry
pub mod Blocks
pub mod Times
