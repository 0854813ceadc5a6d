pub mod Codes
pub mod Sample
pub mod Ticketed
