pub mod Claim
pub mod Arrival
pub mod Host
pub mod LostIds
pub mod Removal
