pub mod Texts
pub mod Numbers
pub mod FrontLemmas
pub mod EntryLemmas
pub mod LineLemmas
pub mod ScriptLemmas
pub mod RefusalLemmas
pub mod ReadingLemmas
