pub mod Fill
pub mod Bits
