pub mod Words
pub mod Tables
pub mod Answers
pub mod Wide
