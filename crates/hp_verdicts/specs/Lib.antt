pub mod Names
pub mod Parts
pub mod Reports
pub mod Sizes
