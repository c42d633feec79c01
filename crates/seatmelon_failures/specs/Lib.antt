pub mod Failing
pub mod FileKinds
