pub mod VerdictSteps
pub mod UsageSteps
pub mod NoFaults
pub mod Samples
