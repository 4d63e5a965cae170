pub mod Lanes
pub mod Sessions
pub mod Calls
