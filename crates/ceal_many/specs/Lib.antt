-- what the crate promises
pub mod Standing
pub mod Lines
pub mod Prefixes
pub mod Sessions
pub mod Replies
pub mod Kept
pub mod Alone
pub mod Laws
