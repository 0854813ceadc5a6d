pub mod Entries
pub mod Years
pub mod Masses
pub mod Tonnage
pub mod Edits
pub mod Kept
pub mod Faults
