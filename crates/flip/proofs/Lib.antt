pub mod Outside
pub mod Seen
pub mod Flips
