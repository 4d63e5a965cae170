pub mod Fronts
pub mod Told
pub mod Places
pub mod Opened
pub mod Causes
pub mod SectorBytes
pub mod Unplaced
