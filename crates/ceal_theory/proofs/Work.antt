-- Steps, blocks and work, and the bound of a repair's work.
-- what crates above cite
pub mod CostBound
pub mod ItemCounts
-- what only this crate cites
pub mod KeptSteps
