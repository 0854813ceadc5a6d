pub mod Changes
pub mod Damage
pub mod Faults
pub mod Gathered
pub mod Laws
pub mod Records
