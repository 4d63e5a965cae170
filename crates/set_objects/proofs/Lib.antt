pub mod Lists
pub mod Tables
pub mod Telling
pub mod Modules
pub mod Lengths
pub mod Sized
pub mod There
pub mod Among
pub mod Whole
pub mod Findings
mod Rows
