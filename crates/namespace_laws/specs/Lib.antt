pub mod Laws
pub mod Whole
pub mod Apart
pub mod Recovered
pub mod Recovery
pub mod Cuts
pub mod Regions
