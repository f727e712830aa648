-- The words of the command line: what the parser takes each for, and what they ask for.
-- what crates above cite
pub mod OneMode
-- what only this crate cites
pub mod AskedMode
pub mod FirstWord
pub mod FoundWords
pub mod OptionText
pub mod PlainWords
pub mod ParseRows
pub mod ModeOfWords
pub mod ParserTakes
pub mod OneWord
