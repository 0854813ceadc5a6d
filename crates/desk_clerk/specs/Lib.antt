pub mod Board
pub mod Clerk
pub mod Core
pub mod Faults
pub mod Laws
pub mod Opening
pub mod Published
pub mod Reading
