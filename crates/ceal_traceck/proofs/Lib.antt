-- what crates above cite
pub mod Remembering
-- the rest
pub mod ItemSteps
pub mod WalkSteps
pub mod MemorySteps
pub mod Accepted
pub mod Known
pub mod HonestItems
pub mod Checked
pub mod Stages
pub mod Sound
pub mod Decided
pub mod SomeVerdict
pub mod Samples
