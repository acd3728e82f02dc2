pub mod Commits
pub mod Frames
pub mod Layers
pub mod Migrations
pub mod Operations
pub mod Parts
pub mod SingleBlocks
