pub mod SchemaLemmas
pub mod LayoutLemmas
pub mod ReadingLemmas
