pub mod Text
pub mod Namespaces
pub mod Whole
pub mod Repair
pub mod Repairing
pub mod Laws
