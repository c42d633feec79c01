-- What the checker answers, and what that says of every run.
pub mod Report
pub mod Listed
pub mod Headline
