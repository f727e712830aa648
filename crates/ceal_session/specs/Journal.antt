-- The edits since a completion, and what a bound is made of.
use Rattle.std.specs.Prelude.{ℕ, List, [], ◌∷◌, ◌++◌}
use Rattle.ceal_session.specs.declared.journal.Bounding.{Bounding}
use Rattle.ceal_session.specs.declared.journal.Bounding.TheVariants.{Number as NumberInCode, Edits as EditsInCode}
use Rattle.ceal_session.specs.declared.journal.Edit.{Edit}

-- a number, or the edits between two completions
pub data Measure : Type 0 where
  Number : (n : ℕ) → Measure
  Between : (edits : List Edit) → Measure

abbrev pub measure_of : Bounding → Measure
measure_of (NumberInCode n) = Number n
measure_of (EditsInCode edits) = Between edits.items

-- the edits since the last completion, in their order, and what its bound is made of
pub record JournalState : Type 0 where
  pub since : List Edit
  pub measure : Measure

-- the bound is this number, and nothing was edited since
abbrev pub journal_of_bound : ℕ → JournalState
journal_of_bound n = record { since = []; measure = Number n }

-- nothing was run
abbrev pub journal_at_start : JournalState
journal_at_start = journal_of_bound 0

abbrev pub with_edit : JournalState → Edit → JournalState
with_edit j e = record j { since = j.since ++ e ∷ [] }

-- a repair is completed
abbrev pub journal_after_completion : JournalState → JournalState
journal_after_completion j = record { since = []; measure = Between j.since }

-- the bound is known to be this number
abbrev pub with_bound : JournalState → ℕ → JournalState
with_bound j n = record j { measure = Number n }
