-- What nodes stand for: items, blocks, groves, and the store.
-- what crates above cite
pub mod NodeItems
pub mod AroundRead
-- what only this crate cites
pub mod NodeBlocks
pub mod GroveOfRead
pub mod StoreAgreement
