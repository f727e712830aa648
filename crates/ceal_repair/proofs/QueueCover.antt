-- Each read that is not queued records what was recorded last of its place, so each stale read is covered by a queued
-- one. what only this crate cites
pub mod Chain
pub mod ChainChanges
pub mod ChainCovers
pub mod AffectedRead
pub mod NodeChanges
pub mod TheoryCover
