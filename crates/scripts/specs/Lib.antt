pub mod Built
pub mod Names
pub mod Scripts
pub mod ValidSteps
