pub mod Asked
pub mod Sized
pub mod Counting
pub mod Ends
pub mod Eights
pub mod Filled
pub mod Chain
mod Rows
mod Adding
mod Fronts
pub mod Kept
mod Areas
pub mod Copied
mod Patched
