pub mod Served
pub mod Asking
pub mod Parts
pub mod Switch
pub mod Laws
pub mod Closed
