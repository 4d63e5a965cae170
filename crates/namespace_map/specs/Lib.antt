pub mod Namespaces
pub mod Laws
pub mod Areas
pub mod Commands
pub mod Changes
pub mod Left
pub mod CommandLaws
