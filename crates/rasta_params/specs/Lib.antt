pub mod Endpoints
pub mod Stored
pub mod StartWords
pub mod Keys
