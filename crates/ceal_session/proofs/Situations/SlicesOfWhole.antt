-- Slices of a repair beside the whole of it: what there is of the one there is of the other.
use Rattle.std.proofs.Common.{◌≡◌, ℕ, zero, suc, ◌≤◌, Option, Some, None, List, refl, sym, ◌∙◌, subst, arith}
use Rattle.ceal_base.specs.Block.{Block}
use Rattle.ceal_base.specs.Trace.{Trace, WasRead, flat}
use Rattle.ceal_base.specs.declared.forest.UnitId.{UnitId}
use Rattle.ceal_base.specs.declared.word.Place.{Place}
use Rattle.ceal_base.specs.declared.word.Word.{Word}
use Rattle.ceal_code.specs.Fitting.{Fits}
use Rattle.ceal_code.specs.Program.{Code}
use Rattle.ceal_code.specs.Replay.{Honest, IsHonest, Store}
use Rattle.ceal_theory.proofs.Repair.Honesty.{fix-rises}
use Rattle.ceal_theory.proofs.SlicedRepair.SliceLaws.{follow-law, slice-law, slices-law, split-law, start-law}
use Rattle.ceal_theory.proofs.Store.Walk.{agrees-honest}
use Rattle.ceal_theory.specs.Repair.{State, Fix, Mend}
use Rattle.ceal_theory.specs.Slices.{Part, Repair, RepairHolds, Runs, Slices, goes_on, repair_at, sliced, starting}
use Rattle.ceal_theory.specs.Walk.{store_after, with_store}

-- k reads of a whole repair: all of it, with reads left over, or a part with no more work
pub data CutAt (code : Code) (names : ℕ → ℕ) (k : ℕ) (s : State) (l : Trace) (s' : State) (m : Trace) : Type 0 where
  all : {j : ℕ} → Part code names k s l (suc j) s' m → CutAt code names k s l s' m
  less : {t : State} {n : Trace} → Part code names k s l zero t n → t.work ≤ s'.work → CutAt code names k s l s' m

module _ {code : Code} {names : ℕ → ℕ} where
  kept-all : {k j : ℕ} {s t s' : State} {p : Place} {value : Word} {u : UnitId} {v : ℕ} {args : List Word} {inside inside' rest rest' : Trace} → s.store p ≡ value
      → Part code names (suc k) s inside (suc j) t inside' → CutAt code names (suc j) t rest s' rest'
      → CutAt code names (suc k) s (WasRead p value u v args inside rest) s' (WasRead p (s.store p) u v args inside' rest')
  kept-all e p (CutAt.all q) = CutAt.all (Part.kept e p q)
  kept-all e p (CutAt.less q few) = CutAt.less (Part.kept e p q) few

  kept-cut : {k : ℕ} {s t s' : State} {p : Place} {value : Word} {u : UnitId} {v : ℕ} {args : List Word} {inside inside' rest rest' : Trace} → s.store p ≡ value
      → CutAt code names (suc k) s inside t inside' → ((j : ℕ) → CutAt code names j t rest s' rest') → t.work ≤ s'.work
      → CutAt code names (suc k) s (WasRead p value u v args inside rest) s' (WasRead p (s.store p) u v args inside' rest')
  kept-cut e (CutAt.all {j = j} p) rest rises = kept-all e p (rest (suc j))
  kept-cut e (CutAt.less p few) rest rises = CutAt.less (Part.kept e p Part.stays) (omega (arith, few, rises))

mutual
  cut : {code : Code} {names : ℕ → ℕ} {s s' : State} {l m : Trace} → Fix code names s l s' m → (k : ℕ) → CutAt code names k s l s' m
  cut f zero = CutAt.less Part.stays (fix-rises f)
  cut Fix.end (suc k) = CutAt.all Part.end
  cut (Fix.step f) (suc k) = elim (cut f (suc k)) [ CutAt.all p ↦ CutAt.all (Part.step p) | CutAt.less p few ↦ CutAt.less (Part.step p) few ]
  cut (Fix.alloc f) (suc k) = elim (cut f (suc k)) [ CutAt.all p ↦ CutAt.all (Part.alloc p) | CutAt.less p few ↦ CutAt.less (Part.alloc p) few ]
  cut (Fix.write f) (suc k) = elim (cut f (suc k)) [ CutAt.all p ↦ CutAt.all (Part.write p) | CutAt.less p few ↦ CutAt.less (Part.write p) few ]
  cut (Fix.read m f) (suc k) = cut-mend m (λ j. cut f j) (fix-rises f) k

  cut-mend : {code : Code} {names : ℕ → ℕ} {s t s' : State} {p : Place} {value : Word} {u : UnitId} {v : ℕ} {args : List Word} {inside inside' rest rest' : Trace}
      → Mend code names s p u v args value inside t inside' → ((j : ℕ) → CutAt code names j t rest s' rest') → t.work ≤ s'.work → (k : ℕ)
      → CutAt code names (suc k) s (WasRead p value u v args inside rest) s' (WasRead p (s.store p) u v args inside' rest')
  cut-mend (Mend.kept e g) rest rises k = kept-cut e (cut g (suc k)) rest rises
  cut-mend (Mend.stale n a) rest rises k = elim (rest k) [ CutAt.all p ↦ CutAt.all (Part.stale n a p) | CutAt.less p few ↦ CutAt.less (Part.stale n a p) few ]

-- honest items are repaired by walking over them
walked : (code : Code) (names : ℕ → ℕ) {a b : Store} {l : Trace} → Honest code a l b → (s : State) → Fix code names (with_store s a) l (with_store s b) l
walked code names Honest.end s = Fix.end
walked code names (Honest.step h) s = Fix.step (walked code names h s)
walked code names (Honest.alloc h) s = Fix.alloc (walked code names h s)
walked code names (Honest.write h) s = Fix.write (walked code names h s)
walked code names {a} {b} (Honest.read {p = p} {value = value} {u = u} {v = v} {args = args} {inside = inside} {rest = rest} e h k) s =
    subst (λ w. Fix code names (with_store s a) (WasRead p value u v args inside rest) (with_store s b) (WasRead p w u v args inside rest)) e
    (Fix.read (Mend.kept e (walked code names h s)) (walked code names k s))

module _ (code : Code) (names : ℕ → ℕ) (inputs : List Block) (n : ℕ) (r : Repair) where
  part-of : (k : ℕ) (s' : State) (m : Trace) → Runs code names None (goes_on code inputs r) r.items s' m → s'.work ≤ n → (z : Repair) × (sliced code names inputs (Some k) n r ≡ Some z)
  part-of k s' m (Runs.whole g) few = elim (cut g k) [
    | CutAt.all p ↦ (repair_at s' m, (slices-law code names inputs (Some k) n r (repair_at s' m)).1 (record { after = s'; items = m; runs = Runs.part p; is = refl }, few))
    | CutAt.less {t = t} {n = part} p fewer ↦
        (repair_at t part, (slices-law code names inputs (Some k) n r (repair_at t part)).1 (record { after = t; items = part; runs = Runs.part p; is = refl }, omega (arith, fewer, few)))
  ]

  -- where no part is there within the steps, the whole is not
  pub none-whole : (k : ℕ) → sliced code names inputs (Some k) n r ≡ None → sliced code names inputs None n r ≡ None
  none-whole k none = go (sliced code names inputs None n r) refl
    where
      go : (o : Option Repair) → sliced code names inputs None n r ≡ o → sliced code names inputs None n r ≡ None
      go None e = e
      go (Some z) e =
          let s = (slices-law code names inputs None n r z).0 e in
          let few : s.0.after.work ≤ n = subst (λ (w : Repair). w.spent ≤ n) s.0.is s.1 in
          let p = part-of k s.0.after s.0.items s.0.runs few in
          absurd (let no : None ≡ Some p.0 = sym none ∙ p.1 in grind (arith, no))

  module _ (f : ℕ) (args : List Word) (fits : Fits code inputs f args) (h : RepairHolds code names inputs f args r) (k : ℕ) (z : Repair) (is : sliced code names inputs (Some k) n r ≡ Some z) where
    slice : Slices code names inputs (Some k) r z
    slice = ((slices-law code names inputs (Some k) n r z).0 is).0

    few : z.spent ≤ n
    few = ((slices-law code names inputs (Some k) n r z).0 is).1

    -- where a part is done the whole is the same
    pub record Whole : Type 0 where
      pub repair : Repair
      pub is_whole : sliced code names inputs None n r ≡ Some repair
      pub items : repair.items ≡ z.items
      pub spent : repair.spent ≡ z.spent

    pub whole-of : IsHonest code inputs z.items → Whole
    whole-of honest =
        let sound = (slice-law code names inputs f args fits r h (Some k) z slice).sound in
        let agrees = (start-law code names inputs f args fits z sound).0 honest in
        let start = agrees-honest code (starting code inputs z.known) z.items agrees in
        let after = with_store (goes_on code inputs z) (store_after code (starting code inputs z.known) (flat z.items)) in
        let w : Slices code names inputs None z (repair_at after z.items) =
        record { after = after; items = z.items; runs = Runs.whole (walked code names start (goes_on code inputs z)); is = refl } in
        record {
          repair = repair_at after z.items;
          is_whole = (slices-law code names inputs None n r (repair_at after z.items)).1 (follow-law code names inputs f args fits r h k z slice None (repair_at after z.items) w, few);
          items = refl;
          spent = refl;
        }

    -- the whole of what a part leaves is the whole
    pub whole-after : sliced code names inputs None n r ≡ sliced code names inputs None n z
    whole-after = go (sliced code names inputs None n z) refl
      where
        go : (o : Option Repair) → sliced code names inputs None n z ≡ o → sliced code names inputs None n r ≡ sliced code names inputs None n z
        go None e = (split-law code names inputs f args fits r h k z slice None (λ no. absurd (grind (arith, no)))).over n e ∙ sym e
        go (Some w) e =
            let s = (slices-law code names inputs None n z w).0 e in
            (slices-law code names inputs None n r w).1 (follow-law code names inputs f args fits r h k z slice None w s.0, s.1) ∙ sym e
