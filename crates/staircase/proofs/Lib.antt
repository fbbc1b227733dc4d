pub mod Compare
pub mod Example
pub mod Mends
pub mod Rows
