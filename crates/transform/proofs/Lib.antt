pub mod Alike
pub mod Answers
pub mod Again
pub mod NewTables
pub mod New
pub mod Filled
