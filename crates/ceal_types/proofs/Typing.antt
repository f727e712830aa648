-- What the walk gives is well typed.
pub mod KindTests
pub mod ExpressionTyped
pub mod ValueTyped
pub mod StatementTyped
pub mod KindsGrow
pub mod HeadTyped
pub mod ProgramTyped
pub mod WholeRows
