-- what the crate promises
pub mod Draws
pub mod Programs
pub mod Names
pub mod ListText
pub mod TreeText
pub mod Text
