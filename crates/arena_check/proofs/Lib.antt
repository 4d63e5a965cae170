pub mod Rows
pub mod Clean
pub mod Opens
pub mod Picked
pub mod Counted
pub mod BadRuns
pub mod BlockWords
