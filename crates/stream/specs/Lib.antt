pub mod Logging
pub mod Model
pub mod LineLaws
pub mod LoggingLaws
pub mod ProgressLaws
pub mod FeedLaws
pub mod RunLaws
pub mod ChunkLaws
