pub mod Answered
pub mod PartTexts
pub mod Served
