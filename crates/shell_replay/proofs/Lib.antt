pub mod Fresh
pub mod Placed
pub mod Coming
