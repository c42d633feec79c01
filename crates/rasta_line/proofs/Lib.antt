pub mod Numbers
pub mod Cuts
pub mod Sending
mod Asked
