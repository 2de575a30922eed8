pub mod Sites
pub mod Groups
