pub mod More
pub mod Faults
pub mod Regions
pub mod Listing
pub mod Arenas
pub mod Causes
pub mod Uncut
pub mod Opened
