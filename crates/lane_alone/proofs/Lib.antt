pub mod Facts
pub mod Changed
pub mod Placed
pub mod Written
pub mod Rows
