pub mod Lines
pub mod Codes
pub mod Show
pub mod Shown
