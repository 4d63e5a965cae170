pub mod Import
pub mod Causes
pub mod Beginning
