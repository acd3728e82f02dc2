pub mod Chains
pub mod Courses
pub mod Cuts
pub mod Deltas
pub mod Journals
pub mod Names
mod NotedSteps
pub mod Places
pub mod Starts
pub mod Undone
pub mod Walks
