pub mod One
pub mod All
pub mod Arena
pub mod Chain
pub mod Sizes
pub mod Flagged
pub mod Patched
pub mod WholePatch
pub mod Several
pub mod Parts
pub mod ByteWords
pub mod Owners
pub mod MapWords
pub mod SectorWords
pub mod SectorChain
pub mod SectorPuts
pub mod SectorRuns
pub mod RunBytes
pub mod RunWords
mod Rows
mod SectorRows
