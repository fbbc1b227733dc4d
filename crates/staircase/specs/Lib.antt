pub mod Coding
pub mod Staircase
pub mod Faults
pub mod Holding
pub mod Groups
pub mod Places
