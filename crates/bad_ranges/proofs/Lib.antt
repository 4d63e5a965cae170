pub mod Records
pub mod Runs
pub mod Tables
mod Rows
