pub mod Places
pub mod Opening
pub mod Reading
pub mod Serving
pub mod Putting
pub mod Steps
pub mod Laws
