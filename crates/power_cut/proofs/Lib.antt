mod InTurn
pub mod Places
pub mod Spread
pub mod Beside
mod Stays
pub mod Runs
mod AtPlaces
mod Rows
