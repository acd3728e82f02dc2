pub mod Course
pub mod Entries
pub mod Kept
pub mod Seen
pub mod Volumes
