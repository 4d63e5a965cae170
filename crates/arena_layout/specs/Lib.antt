pub mod Layout
pub mod Plan
pub mod Info
pub mod Spelling
