pub mod Marks
pub mod Copied
pub mod Counts
pub mod Firsts
