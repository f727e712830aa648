-- what the crate promises
pub mod Answers
pub mod CutScripts
pub mod DumpLaws
pub mod Dumps
pub mod Fuel
pub mod SinkGrowth
pub mod Laws
pub mod Lines
pub mod ManyLaws
pub mod ManySessions
pub mod Modes
pub mod Numerals
pub mod Output
pub mod ReadBack
pub mod Resumed
pub mod Saves
pub mod ServedLines
pub mod StrangerOutput
pub mod Verdicts
pub mod Workloads
-- what its own functions say of each other
pub mod CommandLine
pub mod ResumedInput
pub mod Limits
pub mod Members
