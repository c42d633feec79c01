pub mod Plain
pub mod Moving
