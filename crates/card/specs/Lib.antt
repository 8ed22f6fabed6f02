-- The card: where its numbers stand, what it knows of the log that it has read, and what its calls promise.
pub mod Model
pub mod CountLaws
pub mod HoldLaws
pub mod StateLaws
