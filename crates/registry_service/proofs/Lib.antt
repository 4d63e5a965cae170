pub mod Areas
pub mod Journals
pub mod Serving
pub mod Asked
pub mod Cutting
pub mod Closing
pub mod Laws
pub mod Rows
