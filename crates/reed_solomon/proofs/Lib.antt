pub mod OneWrong
pub mod Tables
pub mod Steps
pub mod Reach
