pub mod Findings
pub mod GroupsFound
pub mod GroupsGrown
pub mod Known
pub mod Played
pub mod SummaryLines
pub mod Written
