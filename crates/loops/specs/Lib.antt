pub mod Loops
pub mod Walk
