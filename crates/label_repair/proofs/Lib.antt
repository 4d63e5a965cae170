pub mod Found
pub mod Alone
pub mod Repaired
mod Rows
