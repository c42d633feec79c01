-- Scripts of takes and makes: when one fits, and what that says of runs.
pub mod Fitting
pub mod Following
pub mod Laws
