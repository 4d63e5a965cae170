pub mod Callers
pub mod Closing
pub mod Entries
pub mod Fresh
pub mod Journals
pub mod Keeps
pub mod Places
pub mod Rows
