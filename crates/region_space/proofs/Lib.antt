pub mod Rows
pub mod Reaches
pub mod Orders
pub mod Filters
pub mod Steps
pub mod Clashes
pub mod Multiples
pub mod Fits
