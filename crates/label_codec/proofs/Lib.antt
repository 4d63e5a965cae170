pub mod Grammar
pub mod Spelled
pub mod OneSpelling
pub mod Laws
mod Written
mod Rows
