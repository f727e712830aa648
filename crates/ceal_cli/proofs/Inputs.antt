-- The parts of an input: its lines, its program, its script, and the save that it resumes.
-- what crates above cite
pub mod OtherScript
pub mod OneReading
-- what only this crate cites
pub mod FirstLineFeed
pub mod OneResumed
pub mod FirstMark
pub mod ScriptLines
pub mod AnswerOrRefusal
