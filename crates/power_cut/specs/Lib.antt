pub mod Left
pub mod Namespace
pub mod Placed
pub mod Placing
pub mod Example
