-- what the crate promises
pub mod SaveText
pub mod Answers
pub mod Marks
-- what its own functions say of each other
pub mod Reading
