pub mod Copied
pub mod Files
pub mod FrameLengths
pub mod Records
pub mod Ways
