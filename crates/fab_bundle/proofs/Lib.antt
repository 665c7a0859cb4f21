pub mod CountRules
pub mod EventRules
pub mod LiteralRules
pub mod PostRules
pub mod RootRules
pub mod TextRules
