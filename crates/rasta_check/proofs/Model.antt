-- What holds of two ends in every run.
pub mod Requests
pub mod Counts
pub mod HandedUnits
pub mod Invariant
pub mod InvariantAtMake
pub mod InvariantAtTake
pub mod InvariantOfRuns
pub mod History
pub mod MakeRows
pub mod TakeRows
pub mod NamedPositions
pub mod Steps
pub mod OfferedUnits
pub mod Settled
pub mod ConveyedUnits
