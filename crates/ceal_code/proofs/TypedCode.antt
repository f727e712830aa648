-- Valid code is never stuck: what it names is there, and fits.
-- what crates above cite
pub mod TypedBlocks
pub mod TypedRun
pub mod ShapesKept
pub mod FittingWords
pub mod FittingInputs
-- what only this crate cites
pub mod TypedExpressions
pub mod TypedStack
pub mod TypedActs
pub mod TypedCommands
pub mod CommandsOnPath
