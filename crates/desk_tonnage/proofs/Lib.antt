pub mod Keys
pub mod Weights
pub mod Kept
pub mod HeavyYears
pub mod OfYear
pub mod Carried
pub mod Lowered
