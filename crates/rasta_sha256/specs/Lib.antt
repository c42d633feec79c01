pub mod Lanes
pub mod Progress
