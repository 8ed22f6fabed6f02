pub mod Answers
pub mod AnswerLaws
pub mod Counters
pub mod Adding
pub mod Said
pub mod Trims
pub mod Used
