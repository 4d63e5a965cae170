pub mod Causes
pub mod Choosers
pub mod Images
pub mod Memory
