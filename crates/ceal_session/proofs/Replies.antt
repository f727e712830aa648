-- Replies and their texts: a line has one, and a session gives it.
pub mod WordsOfSenses
pub mod TextOfReply
pub mod QuestionsAnswered
pub mod OneReply
pub mod ReplyExists
pub mod ReplyUpToNumbers
pub mod ScriptReplies
pub mod LineKeepsSituation
pub mod RepliesByEntries
pub mod ReplyAfterRun
pub mod BoundedReplies
pub mod KeptBound
pub mod NumberAsPrinted
pub mod HandleStays
pub mod EditsKeep
pub mod StandsAfter
pub mod FramedReplies
