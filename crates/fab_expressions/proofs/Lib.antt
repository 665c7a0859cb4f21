pub mod ChainRules
mod ExpressionExamples
pub mod OperatorRules
pub mod PrimaryRules
