pub mod Prepared
pub mod Verdicts
