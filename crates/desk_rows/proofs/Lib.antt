pub mod Order
pub mod Partition
pub mod Runs
pub mod Search
pub mod Sums
pub mod Edits
pub mod Lookups
