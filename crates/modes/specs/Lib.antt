pub mod Modes
pub mod Station
pub mod Stations
