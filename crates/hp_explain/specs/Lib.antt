pub mod AnswerObjects
pub mod Answers
pub mod Continued
pub mod Explainers
pub mod Explaining
pub mod Standings
pub mod Telling
