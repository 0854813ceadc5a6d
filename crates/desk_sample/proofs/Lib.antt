pub mod CodeForms
pub mod Declaring
pub mod Gained
pub mod NameForms
