pub mod Found
pub mod Told
pub mod Grown
pub mod Keeping
pub mod Front
