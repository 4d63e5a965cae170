pub mod Lanes
pub mod Loops
pub mod Sessions
pub mod Begins
pub mod Ends
pub mod Called
