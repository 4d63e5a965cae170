pub mod Replay
pub mod Causes
pub mod Answering
