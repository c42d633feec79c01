pub mod Agreement
pub mod Crossed
pub mod Judging
pub mod Listing
pub mod SentMessages
pub mod Shown
pub mod Supposing
pub mod Under
