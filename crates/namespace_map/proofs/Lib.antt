pub mod Entries
pub mod Rising
pub mod Asking
mod Rows
mod CommandRows
mod Refusals
pub mod Fronts
pub mod Slots
pub mod Areas
pub mod Labels
pub mod Others
