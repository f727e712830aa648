-- what the crate promises
pub mod Verdict
pub mod Faults
pub mod Laws
