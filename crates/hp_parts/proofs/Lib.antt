pub mod Adding
pub mod AllParts
pub mod EarlierSchedules
pub mod Ended
pub mod Explorations
mod Gathered
pub mod Joining
mod Lines
pub mod Moved
pub mod Ordered
pub mod Parted
pub mod PartsWritten
pub mod Read
pub mod Values
pub mod Written
