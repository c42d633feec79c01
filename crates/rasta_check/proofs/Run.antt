-- The run that two scripts tell, move by move, with its lines.
pub mod Worlds
pub mod Entries
pub mod Rests
pub mod Moves
pub mod LineCounts
pub mod Takes
pub mod Packets
pub mod Levels
pub mod Simulation
