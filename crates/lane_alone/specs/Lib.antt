pub mod Alone
pub mod Lone
