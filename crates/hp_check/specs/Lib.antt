pub mod Adds
pub mod Calls
pub mod Checking
pub mod Findings
pub mod Hints
pub mod JsonPositions
pub mod Ranges
pub mod Shape
