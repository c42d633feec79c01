-- What is kept of packets of a connection that begin anywhere, and what is listed of them.
pub mod Sights
pub mod Kept
pub mod Seen
pub mod Shown
pub mod Resent
pub mod ShownLists
