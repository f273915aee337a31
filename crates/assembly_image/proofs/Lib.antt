mod ZeroWithin
mod RowLemmas
mod PartLemmas
mod ModuleLemmas
mod PassLemmas
mod ImageLemmas
mod VersionLemmas
mod EncloserLemmas
mod TextEnds
mod NameLemmas
mod FindLemmas
mod Lists
pub mod Facts
mod MemberLemmas
mod ScopeLemmas
mod TextStarts
mod IndexLemmas
pub mod FewRows
