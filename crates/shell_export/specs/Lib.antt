pub mod Export
pub mod Listed
pub mod Printing
pub mod Causes
