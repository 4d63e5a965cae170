pub mod Firsts
pub mod Lesser
pub mod Found
pub mod Finding
pub mod Twice
mod Rows
