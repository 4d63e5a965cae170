pub mod Halves
pub mod Rows
