pub mod Numbers
pub mod Payloads
pub mod Places
pub mod Bodies
pub mod Spellings
pub mod Writing
