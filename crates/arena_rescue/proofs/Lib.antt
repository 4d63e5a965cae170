pub mod Rows
pub mod Ranges
pub mod Counts
pub mod Losses
pub mod Taking
pub mod Areas
pub mod Laws
