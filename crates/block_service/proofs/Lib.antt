pub mod Account
pub mod Counts
pub mod Desks
pub mod Rows
pub mod Sessions
