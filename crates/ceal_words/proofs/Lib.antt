pub mod PieceLemmas
pub mod FreeLemmas
pub mod PoolLemmas
pub mod RegionLemmas
pub mod MemoryLemmas
pub mod BlockWalks
pub mod ChunkLemmas
pub mod Samples
