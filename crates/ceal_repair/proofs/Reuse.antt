-- What is left over to a unit, and is taken by it.
-- what only this crate cites
pub mod LeftOver
pub mod NoNewEnds
pub mod AllocReuse
pub mod AllocReuseInCode
pub mod ReadReuse
pub mod ReadMatch
pub mod ReadReuseInCode
pub mod ReadTaken
pub mod TakenReadEnd
