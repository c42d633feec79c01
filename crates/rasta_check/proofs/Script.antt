-- Scripts that fit, and the runs that they tell.
pub mod FollowedScripts
pub mod CutScripts
pub mod Fits
pub mod RefusedEntries
pub mod Tracks
pub mod OneWay
pub mod ScriptsOfRuns
pub mod WritableEntries
