pub mod Repair
pub mod Laws
