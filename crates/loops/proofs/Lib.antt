pub mod Lowest
pub mod Walk
