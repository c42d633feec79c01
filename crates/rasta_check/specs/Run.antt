-- Runs of two ends move by move, and the lines that tell them.
pub mod Moves
pub mod Lines
pub mod Levels
pub mod Laws
