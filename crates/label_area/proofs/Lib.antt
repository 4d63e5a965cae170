pub mod Current
pub mod Spellings
pub mod Closed
pub mod Before
pub mod Written
pub mod Steps
pub mod After
pub mod Init
pub mod Made
pub mod Pending
pub mod Opened
pub mod Filled
pub mod Replaced
pub mod Blocks
mod Rows
