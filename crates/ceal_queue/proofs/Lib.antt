pub mod QueueLemmas
pub mod Samples
