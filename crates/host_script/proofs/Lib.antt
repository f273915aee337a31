mod ByteLemmas
mod FirstWordLemmas
mod ImageLemmas
mod LineLemmas
mod NumberLemmas
mod RowLemmas
mod SaidLemmas
pub mod ScriptLemmas
mod SpellingLemmas
mod StateLemmas
mod TextLemmas
mod WordLemmas
pub mod WordedLemmas
pub mod SmallLemmas
