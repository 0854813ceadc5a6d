pub mod CoreKept
pub mod Damages
pub mod Growing
pub mod OpenedAs
pub mod Submitted
pub mod ToPublish
