-- The code of a well typed program is valid.
pub mod KnownVariables
pub mod ExpressionTypes
pub mod StatementsAtBlocks
pub mod RightBodies
pub mod LiveVariablesInScope
pub mod UnitsOfEntries
pub mod StatementsAtEntries
pub mod RightCommands
pub mod RightTrees
pub mod RightInitialisers
pub mod ValidCode
