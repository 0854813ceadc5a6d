mod ExampleProofs
pub mod RowFacts
pub mod Texts
