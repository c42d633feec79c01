pub mod CutNotes
pub mod Cuts
pub mod CutRecords
pub mod Findings
pub mod Survey
pub mod Extents
pub mod Belonging
pub mod Places
