-- What two sent lists say of every run.
pub mod SentRuns
pub mod ListedUnits
pub mod ShowingPdus
pub mod Middle
pub mod JoinedMessages
