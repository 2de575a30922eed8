pub mod Chunks
pub mod Advance
pub mod Steps
pub mod Runs
