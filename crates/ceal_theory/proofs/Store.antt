-- The store along items: contents, plain words, inputs, and what is known.
-- what crates above cite
pub mod Walk
pub mod KnownContent
pub mod KnownPlaces
pub mod KnownBlocks
pub mod WordsOfWalk
pub mod WordsGrow
pub mod FittingInputs
pub mod MoreInputs
pub mod WritesByPlace
pub mod WordsOneByOne
-- what only this crate cites
pub mod EqualContents
pub mod Mentions
