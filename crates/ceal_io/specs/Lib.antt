-- what the crate promises
pub mod Streams
pub mod Calls
