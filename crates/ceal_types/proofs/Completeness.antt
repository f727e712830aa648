-- What agrees with the source and is well typed is what the walk gives.
pub mod ExpressionComplete
pub mod StatementComplete
pub mod ProgramComplete
