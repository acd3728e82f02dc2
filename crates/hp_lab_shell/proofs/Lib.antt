pub mod Counted
pub mod Judged
pub mod Named
pub mod Plainly
