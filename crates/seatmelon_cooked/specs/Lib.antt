pub mod Ethernet
pub mod Forms
pub mod Frames
pub mod Steps
