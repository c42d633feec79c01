pub mod Cut
pub mod Features
pub mod Recognizing
pub mod Trials
