pub mod Words
pub mod Fuses
pub mod Leaving
pub mod Pending
pub mod Groups
pub mod Guarded
pub mod WordBytes
pub mod Runs
