pub mod FlowLemmas
pub mod Searches
