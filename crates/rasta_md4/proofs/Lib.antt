pub mod Blocks
pub mod Digests
pub mod Padding
pub mod Pieces
pub mod Steps
