-- The steps that a repair keeps.
use Rattle.std.proofs.Common.{◌≡◌, ℕ, ◌+◌, ◌≤◌, Bool, true, false, if◌then◌else◌, Option, Some, None, List, refl, subst, arith, ◌==◌, ◌&&◌}
use Rattle.ceal_base.specs.Operators.{same_place}
use Rattle.ceal_base.specs.Trace.{Trace, Nothing, Stepped, Allocated, Wrote, WasRead, steps_of, trace_then}
use Rattle.ceal_base.specs.declared.forest.Key.{Key}
use Rattle.ceal_base.specs.declared.forest.UnitId.{UnitId}
use Rattle.ceal_base.specs.declared.word.BlockId.{BlockId}
use Rattle.ceal_base.specs.declared.word.Place.{Place}
use Rattle.ceal_base.specs.declared.word.Word.{Word}
use Rattle.ceal_code.proofs.Words.SameIsEqual.{some-same, none-some}
use Rattle.ceal_code.specs.Program.{Code}
use Rattle.ceal_code.specs.Step.{Stack}
use Rattle.ceal_theory.specs.KeptSteps.{kept_fix, kept_mend, kept_anew, KeptStepsLaw}
use Rattle.ceal_theory.specs.Repair.{State, Fix, Mend, Reruns}
use Rattle.ceal_theory.specs.Take.{TakenAlloc, TakenRead, same_words, same_key, alloc_then, read_then, take_alloc, take_read}

steps-followed : (f g : Trace) → steps_of (trace_then f g) ≡ steps_of f + steps_of g
steps-followed Nothing g = omega arith
steps-followed (Stepped rest) g = omega (arith, steps-followed rest g)
steps-followed (Allocated b k rest) g = steps-followed rest g
steps-followed (Wrote p v rest) g = steps-followed rest g
steps-followed (WasRead p v u x args inside rest) g = omega (arith, steps-followed rest g)

alloc-then-steps : (rest : Trace) (a c : Option TakenAlloc) (n : ℕ) (t : TakenAlloc) →
    ((t : TakenAlloc) → a ≡ Some t → steps_of t.leftover ≤ n) →
    ((t : TakenAlloc) → c ≡ Some t → steps_of t.leftover ≤ steps_of rest)
    → alloc_then rest a c ≡ Some t → steps_of t.leftover ≤ n + steps_of rest
alloc-then-steps rest None c n t h k e = omega (arith, k t e)
alloc-then-steps rest (Some a) c n t h k e =
    subst (λ t. steps_of t.leftover ≤ n + steps_of rest) (some-same (record a { leftover = trace_then a.leftover rest }) t e) (omega (arith, steps-followed a.leftover rest, h a refl))

alloc-if-steps : (b : BlockId) (rest : Trace) (test : Bool) (c : Option TakenAlloc) (t : TakenAlloc) → ((t : TakenAlloc) → c ≡ Some t → steps_of t.leftover ≤ steps_of rest)
    → (if test then Some (record { block = b; leftover = rest }) else c) ≡ Some t → steps_of t.leftover ≤ steps_of rest
alloc-if-steps b rest true c t h e = subst (λ t. steps_of t.leftover ≤ steps_of rest) (some-same (record { block = b; leftover = rest }) t e) (omega arith)
alloc-if-steps b rest false c t h e = h t e

alloc-steps : (key : Key) (old : Trace) (t : TakenAlloc) → take_alloc key old ≡ Some t → steps_of t.leftover ≤ steps_of old
unfolding take_alloc
alloc-steps key Nothing t e = none-some t e
alloc-steps key (Stepped rest) t e = omega (arith, alloc-steps key rest t e)
alloc-steps key (Allocated b k rest) t e = alloc-if-steps b rest (same_key k key) (take_alloc key rest) t (alloc-steps key rest) e
alloc-steps key (Wrote p v rest) t e = alloc-steps key rest t e
alloc-steps key (WasRead p v u x args inside rest) t e = alloc-then-steps rest (take_alloc key inside) (take_alloc key rest) (steps_of inside) t (alloc-steps key inside) (alloc-steps key rest) e

read-then-steps : (rest : Trace) (a c : Option TakenRead) (n : ℕ) (t : TakenRead) → ((t : TakenRead) → a ≡ Some t → steps_of t.inside + steps_of t.leftover ≤ n)
    → ((t : TakenRead) → c ≡ Some t → steps_of t.inside + steps_of t.leftover ≤ steps_of rest) → read_then rest a c ≡ Some t → steps_of t.inside + steps_of t.leftover ≤ n + steps_of rest
read-then-steps rest None c n t h k e = omega (arith, k t e)
read-then-steps rest (Some a) c n t h k e =
    subst (λ t. steps_of t.inside + steps_of t.leftover ≤ n + steps_of rest)
    (some-same (record a { leftover = trace_then a.leftover rest }) t e)
    (omega (arith, steps-followed a.leftover rest, h a refl))

read-if-steps : (v : Word) (inside rest : Trace) (test : Bool) (c : Option TakenRead) (t : TakenRead) →
    ((t : TakenRead) → c ≡ Some t → steps_of t.inside + steps_of t.leftover ≤ steps_of inside + steps_of rest)
    → (if test then Some (record { value = v; inside = inside; leftover = rest }) else c) ≡ Some t → steps_of t.inside + steps_of t.leftover ≤ steps_of inside + steps_of rest
read-if-steps v inside rest true c t h e = subst
    (λ t. steps_of t.inside + steps_of t.leftover ≤ steps_of inside + steps_of rest)
    (some-same (record { value = v; inside = inside; leftover = rest }) t e) (omega arith)
read-if-steps v inside rest false c t h e = h t e

read-steps : (p : Place) (u : UnitId) (v : ℕ) (args : List Word) (old : Trace) (t : TakenRead) → take_read p u v args old ≡ Some t → steps_of t.inside + steps_of t.leftover ≤ steps_of old
unfolding take_read
read-steps p u v args Nothing t e = none-some t e
read-steps p u v args (Stepped rest) t e = omega (arith, read-steps p u v args rest t e)
read-steps p u v args (Allocated b k rest) t e = read-steps p u v args rest t e
read-steps p u v args (Wrote q w rest) t e = read-steps p u v args rest t e
read-steps p u v args (WasRead q w x y words inside rest) t e =
    read-if-steps w inside rest (same_place q p && x.0 == u.0 && y == v && same_words words args) (read_then rest (take_read p u v args inside) (take_read p u v args rest)) t
    (λ t. read-then-steps rest (take_read p u v args inside) (take_read p u v args rest) (steps_of inside) t (read-steps p u v args inside) (read-steps p u v args rest)) e

mutual
  fix-sum : {code : Code} {names : ℕ → ℕ} {s s' : State} {old new : Trace} (f : Fix code names s old s' new) → kept_fix f + s'.work ≡ steps_of new + s.work
  fix-sum Fix.end = refl
  fix-sum (Fix.step f) = omega (arith, fix-sum f)
  fix-sum (Fix.alloc f) = fix-sum f
  fix-sum (Fix.write f) = fix-sum f
  fix-sum (Fix.read m f) = omega (arith, mend-sum m, fix-sum f)

  mend-sum : {code : Code} {names : ℕ → ℕ} {s t : State} {p : Place} {u : UnitId} {v : ℕ} {args : List Word} {value : Word} {old new : Trace}
      (m : Mend code names s p u v args value old t new) → kept_mend m + t.work ≡ steps_of new + s.work
  mend-sum (Mend.kept e f) = fix-sum f
  mend-sum (Mend.stale e a) = anew-sum a

  anew-sum : {code : Code} {names : ℕ → ℕ} {s s' : State} {st : Stack} {old new left : Trace} (a : Reruns code names s st old s' new left) → kept_anew a + s'.work ≡ steps_of new + s.work
  anew-sum (Reruns.over e) = refl
  anew-sum (Reruns.quiet e a) = omega (arith, anew-sum a)
  anew-sum (Reruns.takes_alloc e t a) = omega (arith, anew-sum a)
  anew-sum (Reruns.makes e t a) = omega (arith, anew-sum a)
  anew-sum (Reruns.writes e a) = omega (arith, anew-sum a)
  anew-sum (Reruns.takes_read e t m a) = omega (arith, mend-sum m, anew-sum a)
  anew-sum (Reruns.reads e t m a) = omega (arith, anew-sum m, anew-sum a)

mutual
  fix-few : {code : Code} {names : ℕ → ℕ} {s s' : State} {old new : Trace} (f : Fix code names s old s' new) → kept_fix f ≤ steps_of old
  fix-few Fix.end = omega arith
  fix-few (Fix.step f) = omega (arith, fix-few f)
  fix-few (Fix.alloc f) = fix-few f
  fix-few (Fix.write f) = fix-few f
  fix-few (Fix.read m f) = omega (arith, mend-few m, fix-few f)

  mend-few : {code : Code} {names : ℕ → ℕ} {s t : State} {p : Place} {u : UnitId} {v : ℕ} {args : List Word} {value : Word} {old new : Trace}
      (m : Mend code names s p u v args value old t new) → kept_mend m ≤ steps_of old
  mend-few (Mend.kept e f) = fix-few f
  mend-few (Mend.stale e a) = omega (arith, anew-few a)

  anew-few : {code : Code} {names : ℕ → ℕ} {s s' : State} {st : Stack} {old new left : Trace} (a : Reruns code names s st old s' new left) → kept_anew a + steps_of left ≤ steps_of old
  anew-few (Reruns.over e) = omega arith
  anew-few (Reruns.quiet e a) = anew-few a
  anew-few (Reruns.takes_alloc {key = key} {old = old} {t = t} e w a) = omega (arith, anew-few a, alloc-steps key old t w)
  anew-few (Reruns.makes e t a) = anew-few a
  anew-few (Reruns.writes e a) = anew-few a
  anew-few (Reruns.takes_read {p = p} {u = u} {v = v} {args = args} {old = old} {r = r} e w m a) = omega (arith, mend-few m, anew-few a, read-steps p u v args old r w)
  anew-few (Reruns.reads e t m a) = omega (arith, anew-few m, anew-few a)

pub kept-law : KeptStepsLaw
kept-law code names s s' old new f = (fix-sum f, fix-few f)
