pub mod Faults
pub mod File
pub mod Imported
pub mod Lines
pub mod ReadLines
pub mod Reading
