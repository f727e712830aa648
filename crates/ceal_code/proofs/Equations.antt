-- The equations of the definitions, step by step, as the functions cite them.
-- what crates above cite
pub mod TypeSteps
pub mod TreeSteps
pub mod StmtSteps
pub mod TableSteps
-- what only this crate cites
pub mod CheckSteps
pub mod PathSteps
pub mod ListSteps
pub mod TextSteps
pub mod BranchSteps
pub mod ListingSteps
pub mod ValueSteps
pub mod InitSteps
pub mod StackSteps
pub mod GivenSteps
pub mod WaitSteps
pub mod FloorSteps
