-- The items that a repair gives are honest from the store at its start to the store at its end. Its work is at most
-- their steps, and only rises.
use Rattle.std.proofs.Common.{ℕ, ◌+◌, ◌≤◌, List, refl, arith}
use Rattle.ceal_base.specs.Trace.{Trace, steps_of}
use Rattle.ceal_base.specs.declared.forest.UnitId.{UnitId}
use Rattle.ceal_base.specs.declared.word.Place.{Place}
use Rattle.ceal_base.specs.declared.word.Word.{Word}
use Rattle.ceal_code.specs.Program.{Code}
use Rattle.ceal_code.specs.Replay.{Honest}
use Rattle.ceal_code.specs.Step.{Stack}
use Rattle.ceal_theory.specs.Repair.{State, Fix, Mend, Reruns}

mutual
  pub fix-honest : {code : Code} {names : ℕ → ℕ} {s s' : State} {old new : Trace} → Fix code names s old s' new → Honest code s.store new s'.store
  fix-honest Fix.end = Honest.end
  fix-honest (Fix.step f) = Honest.step (fix-honest f)
  fix-honest (Fix.alloc f) = Honest.alloc (fix-honest f)
  fix-honest (Fix.write f) = Honest.write (fix-honest f)
  fix-honest (Fix.read m f) = Honest.read refl (mend-honest m) (fix-honest f)

  pub mend-honest : {code : Code} {names : ℕ → ℕ} {s t : State} {p : Place} {u : UnitId} {v : ℕ} {args : List Word} {value : Word} {old new : Trace}
      → Mend code names s p u v args value old t new → Honest code s.store new t.store
  mend-honest (Mend.kept e f) = fix-honest f
  mend-honest (Mend.stale e a) = anew-honest a

  pub anew-honest : {code : Code} {names : ℕ → ℕ} {s s' : State} {st : Stack} {old new left : Trace} → Reruns code names s st old s' new left → Honest code s.store new s'.store
  anew-honest (Reruns.over e) = Honest.end
  anew-honest (Reruns.quiet e a) = Honest.step (anew-honest a)
  anew-honest (Reruns.takes_alloc e t a) = Honest.step (Honest.alloc (anew-honest a))
  anew-honest (Reruns.makes e t a) = Honest.step (Honest.alloc (anew-honest a))
  anew-honest (Reruns.writes e a) = Honest.step (Honest.write (anew-honest a))
  anew-honest (Reruns.takes_read e t m a) = Honest.step (Honest.read refl (mend-honest m) (anew-honest a))
  anew-honest (Reruns.reads e t m a) = Honest.step (Honest.read refl (anew-honest m) (anew-honest a))

mutual
  -- the work is at most the steps of the new items
  pub fix-work : {code : Code} {names : ℕ → ℕ} {s s' : State} {old new : Trace} → Fix code names s old s' new → s'.work ≤ s.work + steps_of new
  fix-work Fix.end = omega arith
  fix-work (Fix.step f) = omega (arith, fix-work f)
  fix-work (Fix.alloc f) = fix-work f
  fix-work (Fix.write f) = fix-work f
  fix-work (Fix.read m f) = omega (arith, mend-work m, fix-work f)

  pub mend-work : {code : Code} {names : ℕ → ℕ} {s t : State} {p : Place} {u : UnitId} {v : ℕ} {args : List Word} {value : Word} {old new : Trace}
      → Mend code names s p u v args value old t new → t.work ≤ s.work + steps_of new
  mend-work (Mend.kept e f) = fix-work f
  mend-work (Mend.stale e a) = omega (arith, anew-work a)

  pub anew-work : {code : Code} {names : ℕ → ℕ} {s s' : State} {st : Stack} {old new left : Trace} → Reruns code names s st old s' new left → s'.work ≤ s.work + steps_of new
  anew-work (Reruns.over e) = omega arith
  anew-work (Reruns.quiet e a) = omega (arith, anew-work a)
  anew-work (Reruns.takes_alloc e t a) = omega (arith, anew-work a)
  anew-work (Reruns.makes e t a) = omega (arith, anew-work a)
  anew-work (Reruns.writes e a) = omega (arith, anew-work a)
  anew-work (Reruns.takes_read e t m a) = omega (arith, mend-work m, anew-work a)
  anew-work (Reruns.reads e t m a) = omega (arith, anew-work m, anew-work a)

mutual
  pub fix-rises : {code : Code} {names : ℕ → ℕ} {s s' : State} {old new : Trace} → Fix code names s old s' new → s.work ≤ s'.work
  fix-rises Fix.end = omega arith
  fix-rises (Fix.step f) = fix-rises f
  fix-rises (Fix.alloc f) = fix-rises f
  fix-rises (Fix.write f) = fix-rises f
  fix-rises (Fix.read m f) = omega (arith, mend-rises m, fix-rises f)

  pub mend-rises : {code : Code} {names : ℕ → ℕ} {s t : State} {p : Place} {u : UnitId} {v : ℕ} {args : List Word} {value : Word} {old new : Trace}
      → Mend code names s p u v args value old t new → s.work ≤ t.work
  mend-rises (Mend.kept e f) = fix-rises f
  mend-rises (Mend.stale e a) = anew-rises a

  pub anew-rises : {code : Code} {names : ℕ → ℕ} {s s' : State} {st : Stack} {old new left : Trace} → Reruns code names s st old s' new left → s.work ≤ s'.work
  anew-rises (Reruns.over e) = omega arith
  anew-rises (Reruns.quiet e a) = omega (arith, anew-rises a)
  anew-rises (Reruns.takes_alloc e t a) = omega (arith, anew-rises a)
  anew-rises (Reruns.makes e t a) = omega (arith, anew-rises a)
  anew-rises (Reruns.writes e a) = omega (arith, anew-rises a)
  anew-rises (Reruns.takes_read e t m a) = omega (arith, mend-rises m, anew-rises a)
  anew-rises (Reruns.reads e t m a) = omega (arith, anew-rises m, anew-rises a)
