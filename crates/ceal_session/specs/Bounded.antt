-- Work, bound and steps: that the numbers which a session tells are in this order.
use Rattle.std.specs.Prelude.{◌≡◌, ℕ, ◌≤◌, false, Option, Some, IfSome, List}
use Rattle.std.specs.List.{AllByRecursion}
use Rattle.ceal_script.specs.declared.command.Command.{Command}
use Rattle.ceal_script.specs.declared.command.Command.TheVariants.{Mod, New, Set}
use Rattle.ceal_theory.specs.Pasts.{goes}
use Rattle.ceal_session.specs.Replies.{Reads, Replies, Leads}
use Rattle.ceal_session.specs.Runs.{present_run}
use Rattle.ceal_session.specs.Consistency.{IsConsistent}
use Rattle.ceal_session.specs.State.{Situation, numbers_in}
use Rattle.ceal_session.specs.Strangers.{Completes}

-- What `work` tells is at most what `bound` tells, and that is at most what `steps` tells.
pub record AreOrdered (m : Situation) : Type 0 where
  pub work : (numbers_in m).work ≤ (numbers_in m).bound
  pub steps : IfSome (present_run m.state) (λ run. (numbers_in m).bound ≤ run.steps)

-- a line that adds an input or edits one, where it is not refused
abbrev pub IsEdit : Option Command → Type 0
IsEdit (Some (Mod name kind value)) = Unit {0}
IsEdit (Some (New name shape values)) = Unit {0}
IsEdit (Some (Set place value)) = Unit {0}
IsEdit _ = ⊥

abbrev pub HaveNoEdit : List (List ℕ) → Type 0
HaveNoEdit lines = AllByRecursion (λ line. (command : Option Command) → Reads line command → ¬ IsEdit command) lines

-- Where no repair is in progress and no line is an edit, the numbers are in this order after a line that completes a
-- run or a repair, be it whole or the last slice of it.
abbrev pub BoundedLaw : Type 0
BoundedLaw =
    (m mid n : Situation) (lines : List (List ℕ)) (line out text : List ℕ) → IsConsistent m → goes m.past ≡ false
    → HaveNoEdit lines → Leads m lines out mid → Replies mid line text n → Completes mid line n → AreOrdered n
