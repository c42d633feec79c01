pub mod Common
pub mod Filling
pub mod Mending
pub mod Sent
pub mod Spelling
pub mod Supposition
