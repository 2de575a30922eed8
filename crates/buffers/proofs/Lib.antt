pub mod Slots
pub mod Faults
