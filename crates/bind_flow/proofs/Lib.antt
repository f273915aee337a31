pub mod ComeLemmas
pub mod FlowLemmas
pub mod OrderLemmas
pub mod TurnLemmas
