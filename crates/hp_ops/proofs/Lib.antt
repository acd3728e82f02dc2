pub mod Gained
pub mod Keys
pub mod Receipts
pub mod Runs
