pub mod Rooms
pub mod Sizes
pub mod Views
