pub mod Changing
pub mod Finding
pub mod Playing
