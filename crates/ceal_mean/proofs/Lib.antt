pub mod ValueSteps
pub mod InitSteps
pub mod TodoLemmas
pub mod FrameLemmas
pub mod RunLemmas
pub mod FuelLemmas
pub mod Samples
