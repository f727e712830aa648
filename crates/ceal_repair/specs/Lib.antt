-- what the crate promises
pub mod Lists
pub mod Distance
pub mod Departs
pub mod Covered
pub mod Chain
pub mod Kept
pub mod Looks
pub mod Room
pub mod Woken
pub mod AsItems
pub mod Words
pub mod Entries
pub mod Blocks
pub mod Answers
pub mod Propagation
pub mod Slicing
pub mod Turning
-- what its own functions say of each other
pub mod Frames
pub mod Around
pub mod Moment
pub mod Repairs
pub mod Reads
pub mod Passing
