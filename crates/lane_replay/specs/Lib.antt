pub mod Lanes
pub mod Texts
pub mod Steps
pub mod Scanning
pub mod Calls
pub mod Playing
pub mod Asking
