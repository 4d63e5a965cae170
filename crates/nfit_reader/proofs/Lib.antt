pub mod Little
pub mod Spans
pub mod Firsts
pub mod Twice
pub mod Numbers
pub mod Groups
pub mod DpaRanges
pub mod Apart
pub mod Lengths
pub mod Readings
pub mod Missing
pub mod Rows
mod Counted
mod Placed
mod NoAlias
mod Indexes
pub mod Sharing
