pub mod Header
pub mod Keeping
pub mod LinkTypes
