pub mod Marks
pub mod Pages
pub mod Runs
pub mod Shown
