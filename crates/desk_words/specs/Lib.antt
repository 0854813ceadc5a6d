pub mod App
pub mod Commands
pub mod Faults
pub mod Forms
pub mod Parsed
pub mod Table
