pub mod Comes
pub mod Ending
pub mod Causes
mod InitBlocks
pub mod InitLeaves
pub mod Rows
