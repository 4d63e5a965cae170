pub mod Objects
pub mod Read
pub mod Laws
pub mod Table
pub mod Found
