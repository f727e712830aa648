-- what the crate promises
-- the repair of traces, as rules and as a function, and its laws
pub mod Take
pub mod Repair
pub mod Adjust
pub mod Computed
pub mod Laws
-- the same, one move at a time, over trees and over flat items
pub mod Moves
pub mod Levels
pub mod FlatMachine
pub mod Segments
-- the numbers of new blocks
pub mod Named
pub mod Chosen
-- the store along items, counts, and what is known on the way
pub mod Walk
pub mod Counts
pub mod KeptSteps
pub mod Known
pub mod KnownContent
pub mod MoreInputs
-- repairs in slices, and their queue
pub mod Slices
pub mod SliceLaws
pub mod Progress
pub mod Carried
pub mod Pasts
pub mod Cover
pub mod Listed
-- the course of a turn over nodes
pub mod Groves
pub mod Course
-- cost
pub mod Cost
