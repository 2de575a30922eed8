pub mod Tables
pub mod Repeats
