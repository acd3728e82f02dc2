pub mod Likeness
pub mod Limits
pub mod Marks
pub mod Patterns
pub mod PlanEnds
pub mod PlanLines
pub mod Wanted
pub mod WantedLines
