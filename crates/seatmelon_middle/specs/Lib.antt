pub mod Counts
pub mod Packets
pub mod Course
pub mod Told
