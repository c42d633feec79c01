pub use Rattle.rasta_pcap.specs.Fault
pub use Rattle.rasta_pcap.specs.Devices
pub use Rattle.rasta_pcap.specs.Capture
pub mod Frame
pub mod Route
