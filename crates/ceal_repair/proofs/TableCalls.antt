-- Each call of the tables keeps them in step and the reads chained.
-- what only this crate cites
pub mod PutKeepsTables
pub mod CutKeepsTables
pub mod CallsKeepCover
pub mod BaseEdit
pub mod LookUp
pub mod ContentAfter
pub mod FewLooks
