pub mod Outputs
pub mod Judging
