pub mod Blocks
pub mod Calls
pub mod Hearings
pub mod Takings
pub mod RunsLift
pub mod Promised
pub mod Reached
pub mod RunsShown
