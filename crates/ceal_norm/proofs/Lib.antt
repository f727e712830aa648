pub mod Jumps
pub mod Equations
pub mod Validity
pub mod Runs
pub mod Samples
