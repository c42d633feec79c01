-- Two ends and a network, and what holds of every run.
pub mod World
pub mod Taken
pub mod Laws
pub mod Theorem
pub mod Settled
pub mod Middle
