pub mod Failing
pub mod Forms
