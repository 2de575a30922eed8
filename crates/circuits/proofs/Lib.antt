pub mod Small
pub mod Rows
pub mod Useless
