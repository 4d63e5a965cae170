pub mod Described
pub mod Digits
pub mod Rows
pub mod Simple
pub mod Taken
pub mod Unread
