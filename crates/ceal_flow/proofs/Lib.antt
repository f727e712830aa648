-- what crates above cite
pub mod ListFacts
pub mod BlockSteps
pub mod FunctionSteps
pub mod Placing
pub mod Reach
pub mod Owners
pub mod Reached
-- the rest
pub mod PlaceSteps
pub mod PutSteps
pub mod Simulation
pub mod SameRun
pub mod ChunkFacts
pub mod BitFacts
pub mod OneAnswer
pub mod SomeAnswer
pub mod Samples
