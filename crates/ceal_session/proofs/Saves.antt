-- Saves: the one of a session holds, and a session continues from it.
pub mod SaveOfSession
pub mod SaveThatHolds
pub mod ResumedReplies
pub mod SavedAgain
