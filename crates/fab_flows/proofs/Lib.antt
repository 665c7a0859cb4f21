pub mod CoverLemmas
pub mod Declared
pub mod OneReply
pub mod Replying
