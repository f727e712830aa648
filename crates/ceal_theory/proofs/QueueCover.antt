-- The reads that are not honest, covered by the queue.
-- what only this crate cites
pub mod Cover
pub mod TurnKeepsCover
pub mod NodeChangesKeepCover
