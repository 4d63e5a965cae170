pub mod View
pub mod Laws
pub mod Creation
pub mod Changing
