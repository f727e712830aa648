-- What is left over in the end is revoked.
-- what only this crate cites
pub mod FirstNode
pub mod UpToNode
pub mod BlockRelease
