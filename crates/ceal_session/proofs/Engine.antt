-- What the engine of a session has: the source's run, a past of the definition, and its trace with its cost.
-- what crates above cite
pub mod ProgramAndCode
-- what only this crate cites
pub mod EngineRunIsSource
pub mod EngineKeepsPast
pub mod RunLeavesPast
pub mod WorkWithinBound
pub mod CostOfUpdate
pub mod CostOfFirstTraces
pub mod RecordOfTrace
