-- The walk answers the first of all faults.
pub mod WalkTells
pub mod MembersTell
pub mod ExpressionsTell
pub mod StatementsTell
pub mod HeadsTell
pub mod ProgramTells
