-- what the crate promises
pub mod formers
pub mod Digits
pub mod Faults
pub mod Hashing
pub mod Operators
pub mod Block
pub mod Kinds
pub mod Shapes
pub mod Access
pub mod Answers
pub mod Fitting
pub mod WellTyped
pub mod Usage
pub mod Same
pub mod Trace
pub mod Finished
