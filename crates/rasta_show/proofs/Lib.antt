pub mod Showing
pub mod Streaming
pub mod Bounds
pub mod Refusals
pub mod Lines
