pub mod Carries
pub mod ReadBack
