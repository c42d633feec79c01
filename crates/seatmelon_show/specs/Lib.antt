pub mod Chosen
pub mod Counted
pub mod Sighted
pub mod Typed
