pub mod Blocks
pub mod Digests
pub mod Lanes
pub mod Padding
pub mod Pieces
pub mod Rotations
