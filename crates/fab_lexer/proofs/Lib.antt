mod CutExamples
mod MarkExamples
pub mod FirstLemmas
pub mod Lexing
pub mod PieceLemmas
pub mod QuotedLemmas
pub mod SignLemmas
pub mod TokenLists
pub mod WordLemmas
