pub mod DynamicExamples
pub mod Examples
pub mod FaultExamples
pub mod LanguageExamples
pub mod Notation
pub mod StaticExamples
