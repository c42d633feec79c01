pub mod Differing
mod Signs
pub mod SentMessages
pub mod Told
pub mod Suppositions
pub mod Windows
