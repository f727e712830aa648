-- what crates above cite
pub mod Telling
pub mod CompletePhrase
pub mod Words
pub mod Viable
pub mod Exact
-- the rest
pub mod Stacks
pub mod CompleteStatement
pub mod CompleteProgram
pub mod Regroup
pub mod Future
pub mod Possible
pub mod Verdicts
mod Samples
