-- Examples that the checker computes: the definitions at small desks, beside values that were worked out by hand.
pub mod Articles
pub mod Chains
pub mod Gateway
pub mod Shares
