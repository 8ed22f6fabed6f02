pub mod Model
pub mod TurnLaws
pub mod AnswerLaws
pub mod OpenLaws
pub mod ReadLaws
pub mod Feeding
pub mod FeedingLaws
pub mod Polls
