pub mod ChainLemmas
pub mod Decided
pub mod RingLemmas
pub mod SetLemmas
pub mod TableLemmas
