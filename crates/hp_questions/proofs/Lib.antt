pub mod Bare
mod Below
pub mod Marking
pub mod MarksMade
pub mod Places
pub mod Played
pub mod Reading
pub mod SameMarks
