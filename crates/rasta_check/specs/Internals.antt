-- What serves contracts of private functions alone: how the code keeps, follows and works out.
pub mod Checking
pub mod Conveyed
pub mod Datagrams
pub mod Listing
pub mod Packets
pub mod ResentUnits
pub mod Showing
pub mod Sighting
pub mod Stored
pub mod Storing
