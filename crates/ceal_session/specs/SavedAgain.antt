-- The save of a session that was resumed from one, and carried out more lines.
use Rattle.std.specs.Prelude.{◌≡◌, ℕ, List, [], ◌∷◌, ◌++◌}
use Rattle.ceal_base.specs.Trace.{Trace, flat}
use Rattle.ceal_compile.specs.declared.program.Program.{Program}
use Rattle.ceal_snap.specs.SaveText.{Save}
use Rattle.ceal_theory.specs.Pasts.{goes}
use Rattle.ceal_session.specs.AfterLine.{IsAllowed, IsAfterLine}
use Rattle.ceal_session.specs.Consistency.{IsConsistent, IsIn}
use Rattle.ceal_session.specs.Replies.{Answers, Leads}
use Rattle.ceal_session.specs.SessionSave.{IsSaved, IsResumed, situation_of_save}
use Rattle.ceal_session.specs.State.{Situation, numbers_in}

-- The situation is one of this program that a session comes to, and this is its save.
pub record IsSavedOf (program : Program) (m : Situation) (s : Save) : Type 0 where
  pub stands : IsConsistent m
  pub code : m.code ≡ program.code
  pub typed : m.state.program ≡ program.typed
  pub allowed : IsAllowed m.state.fuel
  pub saved : IsSaved m s

-- From the situation of the save lines lead to the one to which they lead without a stop, up to the numbers of core
-- blocks; so the save of the one is that of the other.
abbrev pub SavedAfterLaw : Type 0
SavedAfterLaw = (program : Program) (m end n : Situation) (s : Save) (trace : Trace) (lines : List (List ℕ))
    (out told : List ℕ) → IsSavedOf program m s → s.kept.forest ≡ flat trace → Leads m lines out end
    → Leads (situation_of_save program.typed program.code s trace) lines told n
    → IsIn n end × ((v : Save) → IsSaved n v → IsSaved end v)

-- Whatever situation a session is in, the lines lead from it to one that the other session is in. The one becomes the
-- other by these lines.
abbrev pub Becomes : Situation → List (List ℕ) → Situation → Type 0
Becomes session lines after =
    (m : Situation) → IsIn session m → (out : List ℕ) × (end : Situation) × Leads m lines out end × IsIn after end

-- So it does by a line that it answers, and by lines one after another.
abbrev pub BecomesLaw : Type 0
BecomesLaw = (old new : Situation) (line text : List ℕ)
    → Answers old.state (numbers_in old) (goes new.past) line text new.state → IsAfterLine old line new
    → Becomes old (line ∷ []) new

abbrev pub BecomeLaw : Type 0
BecomeLaw = (old mid new : Situation) (front back : List (List ℕ)) → Becomes old front mid → Becomes mid back new
    → Becomes old (front ++ back) new

-- A session that was saved and resumed, carries out more lines and is saved again has the very save of one that carries
-- out these lines without a stop.
abbrev pub SavedAgainLaw : Type 0
SavedAgainLaw = (program : Program) (m end session after : Situation) (s u v : Save) (lines : List (List ℕ))
    (out : List ℕ) → IsSavedOf program m s → IsResumed program s session
    → Leads m lines out end → Becomes session lines after
    → IsSaved end u → IsSaved after v → v ≡ u
