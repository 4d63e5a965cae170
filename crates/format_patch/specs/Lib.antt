pub mod Format
pub mod Cut
