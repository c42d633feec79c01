-- What the checker answers.
pub mod CallAnswers
pub mod FileVerdicts
pub mod Headline
pub mod Reports
pub mod ListSteps
