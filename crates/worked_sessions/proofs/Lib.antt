pub mod AwaitingRules
pub mod Computing
pub mod MixedRules
pub mod StoppedRules
pub mod TroubledRules
pub mod ValidScripts
pub mod WorkedRules
