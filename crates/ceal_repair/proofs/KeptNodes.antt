-- Kept nodes inside a read that is taken, with the stale reads among them.
-- what only this crate cites
pub mod PassOne
pub mod PassAll
pub mod StaleRead
pub mod StaleReadEnd
pub mod GoesOn
