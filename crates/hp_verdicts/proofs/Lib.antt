pub mod LogFaults
pub mod Counting
pub mod Verdicts
pub mod Selected
pub mod Sizes
