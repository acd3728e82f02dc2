pub mod Budgets
pub mod Checks
pub mod Faults
pub mod Needs
pub mod Scripts
pub mod Shown
pub mod Statuses
