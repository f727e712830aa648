-- In what the walk gives each name has its number.
pub mod NumbersOfNames
pub mod ExpressionResolved
pub mod StatementResolved
pub mod ProgramResolved
