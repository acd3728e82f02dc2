pub mod Commits
pub mod Operations
pub mod Consequences
pub mod Offline
pub mod Seals
pub mod Numberings
pub mod Renumbered
