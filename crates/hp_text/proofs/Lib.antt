pub mod Joined
mod Started
pub mod Texts
pub mod Aligned
pub mod Counts
pub mod WrittenBack
