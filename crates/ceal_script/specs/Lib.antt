-- what the crate promises
pub mod Characters
pub mod Words
pub mod Spelling
pub mod Lines
pub mod Laws
-- what its own functions say of each other
pub mod Answers
pub mod Keywords
