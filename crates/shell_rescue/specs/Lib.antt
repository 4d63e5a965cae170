pub mod Rescue
pub mod Lost
pub mod Reading
pub mod Found
pub mod Comes
pub mod Causes
pub mod Laws
