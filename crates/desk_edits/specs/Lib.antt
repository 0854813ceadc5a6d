pub mod Edit
pub mod Examples
pub mod Faults
pub mod Keys
pub mod Shape
pub mod Values
