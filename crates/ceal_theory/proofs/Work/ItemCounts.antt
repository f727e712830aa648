-- How many items of each sort a trace has.
use Rattle.std.proofs.Common.{◌≡◌, ℕ, ◌+◌, ◌*◌, ◌≤◌, List, [], ◌∷◌, ◌++◌, length, arith}
use Rattle.ceal_base.specs.Trace.{Trace, Nothing, Stepped, Allocated, Wrote, WasRead, flat, steps_of, blocks_of}
use Rattle.ceal_base.specs.declared.forest.Item.{Item}
use Rattle.ceal_base.specs.declared.forest.Item.TheVariants.{Step, Alloc, Write, Read, End}
use Rattle.ceal_base.specs.declared.forest.UnitId.{UnitId}
use Rattle.ceal_base.specs.declared.word.BlockId.{BlockId}
use Rattle.ceal_base.specs.declared.word.Place.{Place}
use Rattle.ceal_base.specs.declared.word.Word.{Word}
use Rattle.ceal_code.specs.Program.{Code}
use Rattle.ceal_code.specs.Replay.{Yields}
use Rattle.ceal_code.specs.Step.{Stack}
use Rattle.ceal_code.specs.Value.{Plain}
use Rattle.ceal_theory.specs.Counts.{writes_of, reads_of, others_in, CountLaw, BlocksLaw}
use Rattle.ceal_theory.specs.Repair.{State, Fix, Mend, Reruns}

length-append : (bs cs : List BlockId) → length (bs ++ cs) ≡ length bs + length cs
length-append [] cs = omega arith
length-append (b ∷ bs) cs = omega (arith, length-append bs cs)

others-append : (is js : List Item) → others_in (is ++ js) ≡ others_in is + others_in js
others-append [] js = omega arith
others-append (Step ∷ is) js = others-append is js
others-append (Alloc b k ∷ is) js = omega (arith, others-append is js)
others-append (Write p v ∷ is) js = omega (arith, others-append is js)
others-append (Read p v u x args ∷ is) js = omega (arith, others-append is js)
others-append (End ∷ is) js = omega (arith, others-append is js)

few : (code : Code) (x : Plain) {st : Stack} {l : Trace} → Yields code x st l → length (blocks_of l) + (writes_of l + reads_of l) ≤ steps_of l
few code x (Yields.over e) = omega arith
few code x (Yields.quiet e r) = omega (arith, few code x r)
few code x (Yields.makes e h r) = omega (arith, few code x r)
few code x (Yields.writes e r) = omega (arith, few code x r)
few code x (Yields.reads {inside = inside} {rest = rest} e r1 r2) = omega (arith, few code x r1, few code x r2, length-append (blocks_of inside) (blocks_of rest))

others : (l : Trace) → others_in (flat l) ≡ length (blocks_of l) + (writes_of l + 2 * reads_of l)
others Nothing = omega arith
others (Stepped rest) = others rest
others (Allocated b k rest) = omega (arith, others rest)
others (Wrote p v rest) = omega (arith, others rest)
others (WasRead p v u x args inside rest) =
    omega (arith, others inside, others rest, others-append (flat inside) (End ∷ flat rest), length-append (blocks_of inside) (blocks_of rest))

pub count-law : CountLaw
count-law code x st l r = (few code x r, others l)

mutual
  fix-blocks : {code : Code} {names : ℕ → ℕ} {s s' : State} {old new : Trace} → Fix code names s old s' new → s'.number + s.work ≤ s.number + s'.work
  fix-blocks Fix.end = omega arith
  fix-blocks (Fix.step f) = fix-blocks f
  fix-blocks (Fix.alloc f) = fix-blocks f
  fix-blocks (Fix.write f) = fix-blocks f
  fix-blocks (Fix.read m f) = omega (arith, mend-blocks m, fix-blocks f)

  mend-blocks : {code : Code} {names : ℕ → ℕ} {s t : State} {p : Place} {u : UnitId} {v : ℕ} {args : List Word} {value : Word} {old new : Trace}
      → Mend code names s p u v args value old t new → t.number + s.work ≤ s.number + t.work
  mend-blocks (Mend.kept e f) = fix-blocks f
  mend-blocks (Mend.stale e a) = anew-blocks a

  anew-blocks : {code : Code} {names : ℕ → ℕ} {s s' : State} {st : Stack} {old new left : Trace} → Reruns code names s st old s' new left → s'.number + s.work ≤ s.number + s'.work
  anew-blocks (Reruns.over e) = omega arith
  anew-blocks (Reruns.quiet e a) = omega (arith, anew-blocks a)
  anew-blocks (Reruns.takes_alloc e t a) = omega (arith, anew-blocks a)
  anew-blocks (Reruns.makes e t a) = omega (arith, anew-blocks a)
  anew-blocks (Reruns.writes e a) = omega (arith, anew-blocks a)
  anew-blocks (Reruns.takes_read e t m a) = omega (arith, mend-blocks m, anew-blocks a)
  anew-blocks (Reruns.reads e t m a) = omega (arith, anew-blocks m, anew-blocks a)

pub blocks-law : BlocksLaw
blocks-law code names s s' old new f = fix-blocks f
