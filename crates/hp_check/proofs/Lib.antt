pub mod Added
pub mod Agreement
pub mod Entries
pub mod Forms
pub mod Json
pub mod JsonPositions
pub mod Limits
