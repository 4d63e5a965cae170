pub mod App
pub mod Numbers
pub mod Parsed
