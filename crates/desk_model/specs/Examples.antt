-- Examples that the checker computes: the definitions at small desks, beside values that were worked out by hand.
pub mod Desks
pub mod Effects
pub mod Forms
pub mod Texts
