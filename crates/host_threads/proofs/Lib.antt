pub mod CountedLemmas
pub mod OneJournal
pub mod OwnSteps
pub mod Places
pub mod Rounds
pub mod Turns
