-- Examples that the checker computes: the definitions at small desks, beside values that were worked out by hand.
pub mod Affected
pub mod Desks
pub mod Limits
pub mod Refusals
pub mod Sound
pub mod Tower
