mod ChannelsExamples
pub mod Pairs
