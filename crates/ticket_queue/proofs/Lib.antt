pub mod Counting
pub mod Drains
pub mod Keeps
pub mod Orders
pub mod Places
pub mod Rows
pub mod Sources
