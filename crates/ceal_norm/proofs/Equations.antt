-- The code of a graph, form by form.
pub mod ExpressionSteps
pub mod InitialiserSteps
pub mod EntrySteps
pub mod PlanSteps
pub mod BodySteps
pub mod UnitSteps
