pub mod Closing
pub mod Homes
pub mod Inside
pub mod Keeping
pub mod Fresh
