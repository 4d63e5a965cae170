pub mod Putting
pub mod Contents
pub mod Bad
pub mod Changed
pub mod SectorPut
pub mod Runs
pub mod Patching
pub mod SectorBytes
