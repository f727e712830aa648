-- Laws of saves.
use Rattle.std.specs.Prelude.{◌≡◌, ℕ, List}
use Rattle.ceal_base.specs.Trace.{Trace, flat}
use Rattle.ceal_compile.specs.Compiled.{IsCompiled}
use Rattle.ceal_compile.specs.declared.program.Program.{Program}
use Rattle.ceal_snap.specs.SaveText.{Save}
use Rattle.ceal_session.specs.AfterLine.{IsAllowed}
use Rattle.ceal_session.specs.Replies.{Leads}
use Rattle.ceal_session.specs.SessionSave.{IsSaved, SaveHolds, IsResumed, situation_of_save}
use Rattle.ceal_session.specs.Consistency.{IsConsistent, IsIn}
use Rattle.ceal_session.specs.State.{Situation}

-- Situations that are the same up to the numbers of core blocks have the same replies, line by line.
abbrev pub AlikeLaw : Type 0
AlikeLaw =
    (m n end : Situation) (lines : List (List ℕ)) (out : List ℕ) → IsConsistent m → IsIn m n → Leads n lines out end
    → (other : Situation) × Leads m lines out other × IsConsistent other × IsIn other end

-- The save of a session is that of the situation that it is in.
abbrev pub SavedLaw : Type 0
SavedLaw = (session m : Situation) (s : Save) → IsIn session m → IsSaved session s → IsSaved m s

-- A situation has one save at most.
abbrev pub OneSavedLaw : Type 0
OneSavedLaw = (m : Situation) (s t : Save) → IsSaved m s → IsSaved m t → s ≡ t

-- A save that holds has a trace, and its situation is one that a session comes to.
abbrev pub HeldLaw : Type 0
HeldLaw = (program : Program) (s : Save) → IsCompiled program → SaveHolds program.code s
    → (trace : Trace) × (s.kept.forest ≡ flat trace)
    × IsConsistent (situation_of_save program.typed program.code s trace)

-- The save holds, and resumed it answers each script as the situation does, and ends where that ends.
pub record ResumesAs (m : Situation) (program : Program) (s : Save) : Type 0 where
  pub holds : SaveHolds program.code s
  pub trace : Trace
  pub items : s.kept.forest ≡ flat trace
  pub answers : (lines : List (List ℕ)) (out : List ℕ) (end : Situation) → Leads m lines out end
      → (other : Situation) × Leads (situation_of_save program.typed program.code s trace) lines out other
      × IsIn other end

-- So it is with what a session saves.
abbrev pub ResumedLaw : Type 0
ResumedLaw = (program : Program) (m : Situation) (s : Save) → IsConsistent m
    → m.code ≡ program.code → m.state.program ≡ program.typed → IsAllowed m.state.fuel → IsSaved m s
    → ResumesAs m program s

-- A session that continues from what a session saved has that save again.
abbrev pub ResavedLaw : Type 0
ResavedLaw = (program : Program) (m session : Situation) (s t : Save) → IsConsistent m
    → m.code ≡ program.code → m.state.program ≡ program.typed → IsAllowed m.state.fuel → IsSaved m s
    → IsResumed program s session → IsSaved session t → t ≡ s
