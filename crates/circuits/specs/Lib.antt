pub mod Circuits
pub mod Table
pub mod Useless
