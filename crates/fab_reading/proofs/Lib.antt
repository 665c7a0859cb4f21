pub mod ChoiceRules
pub mod ItemRules
pub mod ListRules
pub mod NumberRules
pub mod Rules
pub mod TokenRules
