pub mod Held
pub mod Rows
pub mod Place
pub mod Runs
