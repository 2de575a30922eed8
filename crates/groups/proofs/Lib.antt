pub mod Groups
pub mod Sorts
pub mod Chunks
pub mod Trying
