pub mod Rules
pub mod Status
