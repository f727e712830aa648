-- what the crate promises
pub mod DumpText
pub mod Answers
pub mod Reading
