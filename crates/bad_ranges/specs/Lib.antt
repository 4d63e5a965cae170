pub mod Bad
pub mod Table
