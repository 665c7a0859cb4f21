pub mod Bits
pub mod LawLemmas
pub mod NodeLemmas
pub mod RightsLemmas
