pub mod Cells
pub mod Qam
pub mod Mapping
pub mod LowFirst
pub mod Axis
pub mod QamConstellationLemmas
