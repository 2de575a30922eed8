pub mod Outs
pub mod Inputs
