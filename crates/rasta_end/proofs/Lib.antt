pub mod Lists
pub mod Conveying
pub mod Pushing
pub mod Owing
pub mod MakeTests
pub mod Meant
