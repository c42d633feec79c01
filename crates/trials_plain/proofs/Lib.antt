pub mod Plainly
pub mod Moving
pub mod Tried
