pub mod Cycles
pub mod Fit
pub mod Laws
pub mod Linked
pub mod Marks
pub mod Next
pub mod Places
pub mod Rounds
