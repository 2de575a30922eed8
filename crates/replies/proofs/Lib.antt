pub mod Guards
pub mod Opening
pub mod Unique
