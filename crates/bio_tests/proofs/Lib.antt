pub mod Beginning
pub mod Pairs
pub mod Turns
