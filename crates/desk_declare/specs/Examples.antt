-- Examples that the checker computes: rows beside what they spell, worked out by hand.
pub mod Rows
