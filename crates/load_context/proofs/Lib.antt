pub mod ScanLemmas
pub mod Tables
