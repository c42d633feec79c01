-- What a capture holds, and what its faults say of every run.
pub mod Channels
pub mod FaultlessLists
pub mod Crossings
pub mod FaultNumbers
pub mod FaultlessCaptures
pub mod PacketFaults
pub mod NextPackets
pub mod ListForms
pub mod RecordBytes
pub mod Readings
pub mod RefusedCaptures
pub mod SameBytes
pub mod FirstCopies
pub mod DefiniteFaults
pub mod Positions
