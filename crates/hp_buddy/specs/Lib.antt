pub mod Buddy
pub mod Moves
pub mod LinkedLists
pub mod Rings
pub mod Batches
pub mod Cpus
