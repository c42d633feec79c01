pub mod Numbers
pub mod Sightings
pub mod Hosts
pub mod LateCopies
pub mod Noted
pub mod Comparing
pub mod Quiet
pub mod QuietPoints
