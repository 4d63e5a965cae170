pub mod Namespaces
pub mod Services
pub mod Seated
pub mod Made
pub mod Runners
pub mod Ends
pub mod Ran
pub mod Chunks
