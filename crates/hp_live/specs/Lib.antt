pub mod Answers
pub mod ObjectTalks
pub mod Objects
pub mod Plans
pub mod Results
pub mod RowTalks
pub mod Sessions
pub mod Talks
