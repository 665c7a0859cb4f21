mod LimitExamples
mod SiteExamples
mod StatementExamples
pub mod Within
