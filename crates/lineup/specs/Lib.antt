pub mod Faults
pub mod Judging
pub mod Kinds
pub mod Layouts
pub mod Stated
pub mod LineUps
pub mod Views
