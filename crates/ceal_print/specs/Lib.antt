-- what the crate promises
pub mod Print
pub mod PrintWords
