mod Loaded
mod Pictured
pub mod MemorySteps
mod Values
mod FilledLists
pub mod Conversions
mod Lists
mod Pages
pub mod Tables
mod Made
