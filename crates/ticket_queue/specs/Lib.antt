pub mod Law
pub mod Parties
pub mod Account
