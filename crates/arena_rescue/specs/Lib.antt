pub mod Rescue
pub mod Counting
pub mod Laws
