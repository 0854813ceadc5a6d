pub mod Content
pub mod Doors
pub mod Failed
pub mod Faults
pub mod Memory
pub mod Stores
pub mod Shelves
pub mod Transfer
