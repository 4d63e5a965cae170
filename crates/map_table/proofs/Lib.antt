pub mod Entries
pub mod Counting
pub mod Tallies
pub mod Checked
pub mod Once
pub mod Rows
