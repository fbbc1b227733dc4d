pub mod Laying
pub mod Words
pub mod Frames
pub mod Hearing
pub mod Reading
pub mod Tellings
pub mod Faults
pub mod Apart
