-- What is written for an input: there is one output, and it is written.
pub mod ResumedAsContinued
pub mod DumpBesideSave
pub mod DumpExists
pub mod CutScript
pub mod FirstScript
pub mod OneOutput
pub mod OneRecord
pub mod OutputByMode
pub mod ResumedOutput
pub mod OutputExists
pub mod HoldsOrNot
pub mod SomeResumed
pub mod StrangersReplies
pub mod OutputOfBytes
pub mod VerifiedRun
