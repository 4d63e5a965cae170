pub mod Views
pub mod Spans
pub mod Usable
mod Good
pub mod Formats
mod Rows
pub mod Chains
