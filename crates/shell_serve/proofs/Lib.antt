mod Rows
mod Lists
mod Journals
mod Saves
mod Choosing
pub mod Causes
mod Empty
mod Recovering
mod Served
mod Coming
pub mod TextLines
pub mod Parting
pub mod ScriptLines
pub mod Opens
