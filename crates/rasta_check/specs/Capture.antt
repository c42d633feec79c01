-- What a capture holds: the packets that crossed, what each side sent, and faults.
pub mod SentLists
pub mod PacketFaults
pub mod Crossing
pub mod Building
pub mod Lists
pub mod Passages
pub mod Reading
pub mod Faults
