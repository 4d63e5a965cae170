pub mod Sets
pub mod Rows
pub mod Making
pub mod Left
pub mod Closing
pub mod Ending
