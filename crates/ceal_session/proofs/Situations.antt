-- Situations beside each other, and beside a session.
pub mod SituationFollowsSession
pub mod AlikeReplies
pub mod StrangerReplies
pub mod SlicesOfWhole
pub mod PartsOfRepair
