pub mod Lengths
pub mod Loaded
pub mod RawImport
pub mod SectorsImport
pub mod Causes
