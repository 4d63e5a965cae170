pub mod Check
pub mod Counting
pub mod Laws
