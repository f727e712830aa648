-- The steps that a repair keeps.
use Rattle.std.specs.Prelude.{◌≡◌, ℕ, ◌+◌, ◌≤◌, List}
use Rattle.ceal_base.specs.Trace.{Trace, steps_of}
use Rattle.ceal_base.specs.declared.forest.UnitId.{UnitId}
use Rattle.ceal_base.specs.declared.word.Place.{Place}
use Rattle.ceal_base.specs.declared.word.Word.{Word}
use Rattle.ceal_code.specs.Program.{Code}
use Rattle.ceal_code.specs.Step.{Stack}
use Rattle.ceal_theory.specs.Repair.{State, Fix, Mend, Reruns}

-- how many steps are gone through and stay, which are those that are not re-executed
abbrev mutual
  pub kept_fix : {code : Code} {names : ℕ → ℕ} {s s' : State} {old new : Trace} → Fix code names s old s' new → ℕ
  kept_fix Fix.end = 0
  kept_fix (Fix.step f) = 1 + kept_fix f
  kept_fix (Fix.alloc f) = kept_fix f
  kept_fix (Fix.write f) = kept_fix f
  kept_fix (Fix.read m f) = kept_mend m + kept_fix f

  -- the steps that are kept inside a read that is taken
  pub kept_mend : {code : Code} {names : ℕ → ℕ} {s t : State} {p : Place} {u : UnitId} {v : ℕ}
      {args : List Word} {value : Word} {old new : Trace}
      → Mend code names s p u v args value old t new → ℕ
  kept_mend (Mend.kept e f) = kept_fix f
  kept_mend (Mend.stale e a) = kept_anew a

  -- the steps that are kept in what is re-executed
  pub kept_anew : {code : Code} {names : ℕ → ℕ} {s s' : State} {st : Stack} {old new left : Trace}
      → Reruns code names s st old s' new left → ℕ
  kept_anew (Reruns.over e) = 0
  kept_anew (Reruns.quiet e a) = kept_anew a
  kept_anew (Reruns.takes_alloc e t a) = kept_anew a
  kept_anew (Reruns.makes e t a) = kept_anew a
  kept_anew (Reruns.writes e a) = kept_anew a
  kept_anew (Reruns.takes_read e t m a) = kept_mend m + kept_anew a
  kept_anew (Reruns.reads e t m a) = kept_anew m + kept_anew a

-- the kept and the new steps together are those of the new items; what is kept are steps of the old ones
abbrev pub KeptStepsLaw : Type 0
KeptStepsLaw = (code : Code) (names : ℕ → ℕ) (s s' : State) (old new : Trace) (f : Fix code names s old s' new)
    → (kept_fix f + s'.work ≡ steps_of new + s.work) × (kept_fix f ≤ steps_of old)
