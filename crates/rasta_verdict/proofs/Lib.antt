pub mod Ordered
pub mod RunTexts
pub mod Telling
pub mod Verdicts
pub mod Proposals
pub mod Judging
pub mod Refusing
