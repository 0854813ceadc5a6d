pub mod Bytes
mod ExampleProofs
pub mod KindForms
pub mod KindItems
pub mod Members
