pub mod Lists
pub mod Ops
pub mod Seats
pub mod Served
pub mod Serving
pub mod Standing
pub mod Submitted
