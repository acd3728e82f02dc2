mod Limits
pub mod Lists
pub mod Script
mod Worked
mod WorkedBlocks
mod WorkedHistories
mod WorkedRuns
mod DerivedEq
mod NumbersParsed
pub mod NumbersSpelled
pub mod Geometry
pub mod Joins
pub mod KernelBlockFrames
pub mod ListEdits
pub mod ListParts
pub mod Placed
pub mod Places
pub mod Pools
pub mod Sizes
pub mod Tables
