pub mod Ascii
pub mod ChangeObjects
pub mod Changes
pub mod Parts
pub mod Splices
pub mod Steps
pub mod Told
pub mod Traces
