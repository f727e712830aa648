-- A slice that does not end the repair leaves fewer reads from the first stale one on, by as many as it re-executed.
use Rattle.std.proofs.Common.{◌≡◌, ◌↔◌, ℕ, zero, suc, ◌+◌, ◌*◌, ◌≤◌, Bool, true, false, if◌then◌else◌, Some, List, [], ◌∷◌, ◌++◌, refl, sym, ap, ◌∙◌, subst, arith, append_assoc, append-nil}
use Rattle.ceal_base.specs.Block.{Block}
use Rattle.ceal_base.specs.Operators.{same_word}
use Rattle.ceal_base.specs.Trace.{Trace, Nothing, Stepped, Allocated, Wrote, WasRead, flat}
use Rattle.ceal_base.specs.declared.forest.Item.{Item}
use Rattle.ceal_base.specs.declared.forest.Item.TheVariants.{Step, Alloc, Write, Read, End}
use Rattle.ceal_base.specs.declared.forest.UnitId.{UnitId}
use Rattle.ceal_base.specs.declared.word.Place.{Place}
use Rattle.ceal_base.specs.declared.word.Word.{Word}
use Rattle.ceal_code.proofs.Words.SameIsEqual.{word-same, word-refl}
use Rattle.ceal_code.specs.Fitting.{Fits}
use Rattle.ceal_code.specs.Program.{Code}
use Rattle.ceal_code.specs.Replay.{Store, cleared, stored, bases, IsHonest}
use Rattle.ceal_theory.proofs.Repair.Honesty.{anew-honest}
use Rattle.ceal_theory.proofs.SlicedRepair.Composition.{part-honest}
use Rattle.ceal_theory.proofs.SlicedRepair.CoreBases.{to-bases}
use Rattle.ceal_theory.proofs.SlicedRepair.SliceLaws.{slice-law}
use Rattle.ceal_theory.proofs.Store.Walk.{flat-honest, flat-after, agrees-honest}
use Rattle.ceal_theory.specs.Counts.{reads_of}
use Rattle.ceal_theory.specs.Progress.{reads_in, unrepaired_from, unrepaired, UnrepairedLaw, ProgressLaw, Unended, SlicesEndLaw}
use Rattle.ceal_theory.specs.Repair.{State}
use Rattle.ceal_theory.specs.Slices.{Repair, Part, Runs, Slices, RepairHolds, with_inputs}
use Rattle.ceal_theory.specs.Walk.{store_item, store_after, AgreesAll}

reads-append : (is js : List Item) → reads_in (is ++ js) ≡ reads_in is + reads_in js
reads-append [] js = omega arith
reads-append (Step ∷ is) js = reads-append is js
reads-append (Alloc b key ∷ is) js = reads-append is js
reads-append (Write p value ∷ is) js = reads-append is js
reads-append (Read p value u v args ∷ is) js = omega (arith, reads-append is js)
reads-append (End ∷ is) js = reads-append is js

reads-flat : (l : Trace) → reads_in (flat l) ≡ reads_of l
reads-flat Nothing = refl
reads-flat (Stepped rest) = reads-flat rest
reads-flat (Allocated b key rest) = reads-flat rest
reads-flat (Wrote p value rest) = reads-flat rest
reads-flat (WasRead p value u v args inside rest) = omega (arith, reads-append (flat inside) (End ∷ flat rest), reads-flat inside, reads-flat rest)

-- at a read
few-read : (b : Bool) (x n : ℕ) → x ≤ n → (if b then x else 1 + n) ≤ 1 + n
few-read true x n le = omega arith
few-read false x n le = omega arith

differs : (v w : Word) (b : Bool) → same_word v w ≡ b → ¬ (v ≡ w) → same_word v w ≡ false
differs v w true e apart = absurd (apart (word-same v w e))
differs v w false e apart = e

module _ (code : Code) where
  few : (s : Store) (is : List Item) → unrepaired_from code s is ≤ reads_in is
  few s [] = omega arith
  few s (Step ∷ is) = few s is
  few s (Alloc b key ∷ is) = few (cleared code s b key) is
  few s (Write p value ∷ is) = few (stored s p value) is
  few s (Read p value u v args ∷ is) = few-read (same_word (s p) value) (unrepaired_from code s is) (reads_in is) (few s is)
  few s (End ∷ is) = few s is

  at-kept : (s : Store) (p : Place) (value : Word) (u : UnitId) (v : ℕ) (args : List Word) (is : List Item) → s p ≡ value
      → unrepaired_from code s (Read p value u v args ∷ is) ≡ unrepaired_from code s is
  at-kept s p value u v args is e = rw (e, word-refl value) refl

  at-stale : (s : Store) (p : Place) (value : Word) (u : UnitId) (v : ℕ) (args : List Word) (is : List Item) → ¬ (s p ≡ value)
      → unrepaired_from code s (Read p value u v args ∷ is) ≡ 1 + reads_in is
  at-stale s p value u v args is apart = rw (differs (s p) value (same_word (s p) value) refl apart) refl

  -- what is honest adds nothing
  past : (s : Store) (is js : List Item) → AgreesAll code s is → unrepaired_from code s (is ++ js) ≡ unrepaired_from code (store_after code s is) js
  past s [] js h = refl
  past s (Step ∷ is) js h = past s is js h.1
  past s (Alloc b key ∷ is) js h = past (cleared code s b key) is js h.1
  past s (Write p value ∷ is) js h = past (stored s p value) is js h.1
  past s (Read p value u v args ∷ is) js h = at-kept s p value u v args (is ++ js) h.0 ∙ past s is js h.1
  past s (End ∷ is) js h = past s is js h.1

  -- and where there are none all is honest
  no-read : (b : Bool) (x n : ℕ) → (if b then x else 1 + n) ≡ 0 → (b ≡ true) × (x ≡ 0)
  no-read true x n e = (refl, e)
  no-read false x n e = absurd (omega arith)

  none-agree : (s : Store) (is : List Item) → unrepaired_from code s is ≡ 0 → AgreesAll code s is
  none-agree s [] e = tt
  none-agree s (Step ∷ is) e = (tt, none-agree s is e)
  none-agree s (Alloc b key ∷ is) e = (tt, none-agree (cleared code s b key) is e)
  none-agree s (Write p value ∷ is) e = (tt, none-agree (stored s p value) is e)
  none-agree s (Read p value u v args ∷ is) e =
      let k = no-read (same_word (s p) value) (unrepaired_from code s is) (reads_in is) e in
      (word-same (s p) value k.0, none-agree s is k.1)
  none-agree s (End ∷ is) e = (tt, none-agree s is e)

  -- what comes after a part: the same where it used up its reads, and else fewer by as many as are left
  abbrev After : ℕ → Store → List Item → List Item → Type 0
  After zero s new old = new ≡ old
  After (suc j) s new old = unrepaired_from code s new + suc j ≤ unrepaired_from code s old

  parted : (inside rest more : List Item) → (inside ++ End ∷ rest) ++ more ≡ inside ++ End ∷ (rest ++ more)
  parted inside rest more = append_assoc inside (End ∷ rest) more

  module _ {names : ℕ → ℕ} where
    fewer : {k j : ℕ} {s s' : State} {l m : Trace} → Part code names k s l j s' m → (old new : List Item) → After j s'.store new old
        → unrepaired_from code s.store (flat m ++ new) + k ≤ unrepaired_from code s.store (flat l ++ old)
    fewer Part.stays old new h = let same : new ≡ old = h in rw same (omega arith)
    fewer Part.end old new h = h
    fewer (Part.step f) old new h = fewer f old new h
    fewer (Part.alloc f) old new h = fewer f old new h
    fewer (Part.write f) old new h = fewer f old new h
    fewer (Part.kept {i = zero} {s = s} {p = p} {value = value} {u = u} {v = v} {args = args} {inside = inside} {inside' = inside'} {rest = rest} e g Part.stays) old new h =
        let ih = fewer g (End ∷ (flat rest ++ old)) (End ∷ (flat rest ++ new)) (ap (λ (is : List Item). End ∷ (flat rest ++ is)) h) in
        rw (
          at-kept s.store p value u v args ((flat inside ++ End ∷ flat rest) ++ old) e,
          at-kept s.store p (s.store p) u v args ((flat inside' ++ End ∷ flat rest) ++ new) refl,
          parted (flat inside) (flat rest) old,
          parted (flat inside') (flat rest) new,
        ) ih
    fewer (Part.kept {i = suc i} {s = s} {p = p} {value = value} {u = u} {v = v} {args = args} {inside = inside} {inside' = inside'} {rest = rest} {rest' = rest'} e g f) old new h =
        let ih = fewer g (End ∷ (flat rest ++ old)) (End ∷ (flat rest' ++ new)) (fewer f old new h) in
        rw (
          at-kept s.store p value u v args ((flat inside ++ End ∷ flat rest) ++ old) e,
          at-kept s.store p (s.store p) u v args ((flat inside' ++ End ∷ flat rest') ++ new) refl,
          parted (flat inside) (flat rest) old,
          parted (flat inside') (flat rest') new,
        ) ih
    fewer {s' = s'} (Part.stale {k = k} {s = s} {t = t} {p = p} {value = value} {u = u} {v = v} {args = args} {inside = inside} {inside' = inside'} {rest = rest} {rest' = rest'} apart a f) old new h =
        let ih = fewer f old new h in
        let honest = anew-honest a in
        let walked : unrepaired_from code s.store (flat inside' ++ End ∷ (flat rest' ++ new)) ≡ unrepaired_from code t.store (flat rest' ++ new) =
        past s.store (flat inside') (End ∷ (flat rest' ++ new)) (flat-honest code honest) ∙ ap (λ (w : Store). unrepaired_from code w (flat rest' ++ new)) (sym (flat-after code honest)) in
        let most = few t.store (flat rest ++ old) in
        let reads = reads-append (flat inside) (End ∷ (flat rest ++ old)) in
        rw (
          at-stale s.store p value u v args ((flat inside ++ End ∷ flat rest) ++ old) apart,
          at-kept s.store p (s.store p) u v args ((flat inside' ++ End ∷ flat rest') ++ new) refl,
          parted (flat inside) (flat rest) old,
          parted (flat inside') (flat rest') new,
          walked,
        ) (omega (arith, ih, most, reads))

pub unrepaired-law : UnrepairedLaw
unrepaired-law code inputs l = (
  omega (arith, few code (bases code inputs) (flat l), reads-flat l),
  (
    λ h. subst (λ (is : List Item). unrepaired_from code (bases code inputs) is ≡ 0) (append-nil (flat l)) (past code (bases code inputs) (flat l) [] (flat-honest code h.walk)),
    λ e. record { after = store_after code (bases code inputs) (flat l); walk = agrees-honest code (bases code inputs) l (none-agree code (bases code inputs) (flat l) e) },
  ),
)

module _ (code : Code) (names : ℕ → ℕ) (inputs : List Block) where
  from-bases-fewer : (x : State) (l : Trace) (k : ℕ) (s' : State) (m : Trace) → x.store ≡ bases code inputs → Runs code names (Some k) x l s' m → ¬ (IsHonest code inputs m)
      → unrepaired code inputs m + k ≤ unrepaired code inputs l
  from-bases-fewer x l k s' m e (Runs.part {j = zero} p) stale =
      rw e at (rw (append-nil (flat m), append-nil (flat l)) at (fewer code p [] [] refl))
  from-bases-fewer x l k s' m e (Runs.part {j = suc j} p) stale =
      absurd (stale (record { after = s'.store; walk = rw e at (part-honest code p) }))

pub progress-law : ProgressLaw
progress-law code names inputs f args fits r h k r' s stale =
    let q = to-bases code inputs f args fits r h (Some k) r' s in
    subst (λ (z : Repair). ¬ (IsHonest code inputs z.items) → unrepaired code inputs z.items + k ≤ unrepaired code inputs r.items) (sym q.is)
    (from-bases-fewer code names inputs _ r.items k q.after q.items refl q.runs) stale

pub slices-end-law : SlicesEndLaw
slices-end-law code names inputs f args fits r h k zero z Unended.none = omega arith
slices-end-law code names inputs f args fits r h k (suc n) z (Unended.more {r' = r'} s stale others) =
    let rest = slices-end-law code names inputs f args fits r' (slice-law code names inputs f args fits r h (Some k) r' s).sound k n z others in
    omega (arith, progress-law code names inputs f args fits r h k r' s stale, rest)
