pub mod Known
pub mod Setting
