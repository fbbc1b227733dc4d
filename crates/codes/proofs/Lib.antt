pub mod Differing
pub mod Mends
