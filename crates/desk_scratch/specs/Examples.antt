-- Whole answers that the checker computes, at small desks, beside the texts that were written by hand.
pub mod Chains
pub mod Duties
pub mod Gateway
pub mod Notices
pub mod Sums
pub mod Texts
