pub mod Module
pub mod Fits
pub mod Claim
pub mod Alone
