-- A session beside the situations of the definitions, and its replies one after another.
pub mod CarriedLines
pub mod RepliesFromFirstRun
pub mod GrowingReplies
pub mod LinesKeepProgram
pub mod SessionLeads
pub mod ManyIsRun
pub mod ManyReplies
pub mod ReplyPrefixes
pub mod SessionInSituation
