mod Rising
mod Unbroken
mod Placed
pub mod Whole
mod Kept
mod Rows
