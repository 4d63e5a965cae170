mod Rows
pub mod Order
pub mod Bounds
pub mod Behind
pub mod PatchedWords
pub mod CutRows
pub mod Cut
