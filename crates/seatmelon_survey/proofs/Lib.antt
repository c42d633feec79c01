pub mod CountedCuts
pub mod Extents
pub mod Tables
pub mod Placed
pub mod Lasts
