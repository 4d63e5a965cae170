pub mod Rescue
pub mod Laws
