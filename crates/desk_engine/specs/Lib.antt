pub mod Answers
pub mod Engine
pub mod Masses
pub mod Names
pub mod Planned
pub mod Stored
pub mod Years
