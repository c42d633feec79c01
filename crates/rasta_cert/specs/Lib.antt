pub use Rattle.rasta_end.specs.Fault
pub use Rattle.rasta_end.specs.Devices
pub mod Certificate
pub mod Refusals
pub mod Laws
pub mod Reading
