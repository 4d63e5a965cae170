pub mod Space
pub mod Reach
pub mod Fitting
