pub mod Counts
pub mod Listing
pub mod Examples
pub mod ListingLaws
pub mod Taking
pub mod TakingLaws
