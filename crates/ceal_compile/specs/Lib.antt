-- what the crate promises
pub mod Phases
pub mod Source
pub mod FaultLine
pub mod Compiled
pub mod Laws
