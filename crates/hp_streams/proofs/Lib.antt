pub mod Known
pub mod Whole
pub mod Ended
pub mod Heard
pub mod Joined
