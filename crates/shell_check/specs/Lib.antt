pub mod Text
pub mod Comes
pub mod Reading
pub mod Saving
pub mod All
