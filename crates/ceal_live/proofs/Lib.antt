pub mod UseSteps
pub mod RoundFacts
pub mod BeginFacts
pub mod Samples
