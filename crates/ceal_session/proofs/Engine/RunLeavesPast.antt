-- What a run, or a part of a repair, leaves: the definition's past after it is one of the call.
use Rattle.std.proofs.Common.{◌≡◌, inl, inr, ℕ, ◌+◌, ◌≤◌, ◌==◌, Bool, true, false, if◌then◌else◌, Option, Some, None, List, [], ◌∷◌, is_some, refl, sym, ap, ◌∙◌, subst, arith}
use Rattle.std.proofs.lemmas.Bool.Decides.{leb_tells}
use Rattle.ceal_base.specs.Block.{Block}
use Rattle.ceal_base.specs.Finished.{Finished}
use Rattle.ceal_base.specs.Trace.{Trace, blocks_of, steps_of}
use Rattle.ceal_base.specs.declared.word.Word.{Word}
use Rattle.ceal_code.proofs.Replay.ReplayedCall.{trace-law}
use Rattle.ceal_code.proofs.Words.SameIsEqual.{nat-same, none-some, some-same}
use Rattle.ceal_code.specs.Fitting.{Fits}
use Rattle.ceal_code.specs.Fresh.{fresh}
use Rattle.ceal_code.specs.Program.{Code}
use Rattle.ceal_code.specs.Replay.{count, core_numbers, Replays, IsHonest}
use Rattle.ceal_theory.proofs.SlicedRepair.CarriedLaws.{edited-so, own-single}
use Rattle.ceal_theory.proofs.Repair.EndAsFromScratch.{first-law}
use Rattle.ceal_theory.proofs.SlicedRepair.SliceLaws.{begin-law, done-law, is-done-law, slice-law, slices-law, whole-law}
use Rattle.ceal_theory.specs.Adjust.{Above}
use Rattle.ceal_theory.specs.Computed.{Repaired, first_of}
use Rattle.ceal_theory.specs.Laws.{FirstOutcome, FirstTrace}
use Rattle.ceal_theory.specs.Pasts.{Past, NoTrace, Traced, Going, IsPastOf, first_past, number_above, done_past, left_by, next_repair, slice_of, past_after}
use Rattle.ceal_theory.specs.Repair.{own}
use Rattle.ceal_theory.specs.Slices.{Repair, beginning, sliced, is_done, RepairHolds}

-- no number from the first above all of them on is one of them
none-above : (b : ℕ) (bs : List ℕ) → number_above bs ≤ b → count b bs ≡ 0
none-above b [] h = refl
none-above b (c ∷ cs) h = go (c == b) refl (none-above b cs (omega (arith, h)))
  where
    go : (e : Bool) → (c == b) ≡ e → count b cs ≡ 0 → (if e then 1 else 0) + count b cs ≡ 0
    go true i k = let j : c ≡ b = nat-same c b i in absurd (omega (arith, h, j))
    go false i k = omega (arith, k)

abbrev pub above : Trace → ℕ
above l = number_above (core_numbers (blocks_of l))

pub is-above : (l : Trace) → Above (above l) l
is-above l b h = none-above b (core_numbers (blocks_of l)) h

module _ (code : Code) (inputs : List Block) (f : ℕ) (args : List Word) (fits : Fits code inputs f args) (fuel : ℕ) where
  -- an honest trace of a call whose run ends has no more steps than it may take
  pub few-steps : (l : Trace) → Replays code inputs f args l → IsHonest code inputs l → (r : Finished) → fresh code f args inputs fuel ≡ Some r → steps_of l ≤ fuel
  few-steps l is honest r e = elim (leb_tells (steps_of l) fuel) [
    | inl p ↦ p.1
    | inr p ↦ none-some r (sym ((trace-law code inputs f args fits l is honest).short fuel p.1) ∙ e)
  ]

  -- the first trace is there where the run ends, and not where it does not
  pub record HasFirst (r : Finished) : Type 0 where
    pub first : Repaired
    pub is : first_of code inputs fuel f args ≡ Some first
    pub trace : FirstTrace code inputs f args first r

  pub has-first : (r : Finished) → fresh code f args inputs fuel ≡ Some r → HasFirst r
  has-first r e = go (first_of code inputs fuel f args) (fresh code f args inputs fuel) refl e (first-law code inputs f args fits fuel)
    where
      go : (o : Option Repaired) (p : Option Finished) → first_of code inputs fuel f args ≡ o → p ≡ Some r → FirstOutcome code inputs f args o p → HasFirst r
      go _ _ i k FirstOutcome.none = none-some r k
      go _ _ i k (FirstOutcome.some {a = a} {r = q} t) = record { first = a; is = i; trace = subst (FirstTrace code inputs f args a) (some-same q r k) t }

  pub no-first : fresh code f args inputs fuel ≡ None → first_of code inputs fuel f args ≡ None
  no-first e = go (first_of code inputs fuel f args) (fresh code f args inputs fuel) e (first-law code inputs f args fits fuel)
    where
      go : (o : Option Repaired) (p : Option Finished) → p ≡ None → FirstOutcome code inputs f args o p → o ≡ None
      go _ _ i FirstOutcome.none = refl
      go _ _ i (FirstOutcome.some {r = r} t) = none-some r (sym i)

  -- and the run ends where it is there
  pub first-ends : (a : Repaired) → first_of code inputs fuel f args ≡ Some a → (r : Finished) × (fresh code f args inputs fuel ≡ Some r)
  first-ends a e = go (first_of code inputs fuel f args) (fresh code f args inputs fuel) e refl (first-law code inputs f args fits fuel)
    where
      go : (o : Option Repaired) (p : Option Finished) → o ≡ Some a → fresh code f args inputs fuel ≡ p → FirstOutcome code inputs f args o p
          → (r : Finished) × (fresh code f args inputs fuel ≡ Some r)
      go _ _ i k FirstOutcome.none = none-some a i
      go _ _ i k (FirstOutcome.some {r = r} t) = (r, k)

  -- the repair from which a slice continues is one of the call
  pub next-sound : (p : Past) → IsPastOf code inputs f args p → (r : Repair) → next_repair code inputs p ≡ Some r → RepairHolds code own inputs f args r
  next-sound NoTrace h r e = none-some r e
  next-sound (Traced l) h r e =
      subst (RepairHolds code own inputs f args) (some-same (beginning code inputs l.items (above l.items)) r e)
      (begin-law code own inputs inputs f args l.items (above l.items) (above l.items) (edited-so code inputs f args fits l.items h (above l.items) (is-above l.items)) own-single
      (λ j i. is-above l.items j i))
  next-sound (Going q) h r e = subst (RepairHolds code own inputs f args) (some-same q r e) h

  -- what the past after a run is, by the run from scratch: none where that is out of fuel, a trace that is honest, or a
  -- repair in progress, which is only in a part
  pub data Ran (reads : Option ℕ) (o : Option Finished) : Past → Type 0 where
    out : o ≡ None → Ran reads o NoTrace
    ended : (l : Repaired) (r : Finished) → o ≡ Some r → Replays code inputs f args l.items → IsHonest code inputs l.items → steps_of l.items ≤ fuel → Ran reads o (Traced l)
    going : (r : Repair) → RepairHolds code own inputs f args r → is_some reads ≡ true → Ran reads o (Going r)

  module _ (reads : Option ℕ) where
    abbrev first : Option Repaired
    first = first_of code inputs fuel f args

    abbrev run : Option Finished
    run = fresh code f args inputs fuel

    -- the call is run again
    ran-first : (o : Option Finished) → run ≡ o → Ran reads run (first_past first)
    ran-first None e = subst (λ x. Ran reads run (first_past x)) (sym (no-first e)) (Ran.out e)
    ran-first (Some r) e =
        let h = has-first r e in
        subst (λ x. Ran reads run (first_past x)) (sym h.is) (Ran.ended h.first r e h.trace.replays h.trace.honest (few-steps h.first.items h.trace.replays h.trace.honest r e))

    -- a repair is done
    ran-done : (r : Repair) → RepairHolds code own inputs f args r → IsHonest code inputs r.items → (o : Option Finished) → run ≡ o → Ran reads run (done_past first r)
    ran-done r sound honest None e = subst (λ x. Ran reads run (done_past x r)) (sym (no-first e)) (Ran.out e)
    ran-done r sound honest (Some q) e =
        let h = has-first q e in
        let is = (done-law code own inputs f args fits r sound honest).replays in
        subst (λ x. Ran reads run (done_past x r)) (sym h.is) (Ran.ended (record { items = r.items; work = r.spent }) q e is honest (few-steps r.items is honest q e))

    -- without a number of reads a slice is done
    goes-in-part : (r r' : Repair) → RepairHolds code own inputs f args r → sliced code own inputs reads fuel r ≡ Some r' → is_done code inputs r' ≡ false → (k : Option ℕ) → reads ≡ k
        → is_some reads ≡ true
    goes-in-part r r' sound e d None i =
        let s = subst (λ k. sliced code own inputs k fuel r ≡ Some r') i e in
        let honest = whole-law code own inputs f args fits r sound r' (((slices-law code own inputs None fuel r r').0 s).0) in
        absurd (let t = (is-done-law code inputs r').1 honest in grind (arith, t, d))
    goes-in-part r r' sound e d (Some k) i = ap is_some i

    by-slice : (r : Repair) → RepairHolds code own inputs f args r → (o : Option Repair) → sliced code own inputs reads fuel r ≡ o → Ran reads run (left_by code inputs first o)
    by-slice r sound None e = ran-first run refl
    by-slice r sound (Some r') e = by (is_done code inputs r') refl
      where
        sound' : RepairHolds code own inputs f args r'
        sound' = (slice-law code own inputs f args fits r sound reads r' (((slices-law code own inputs reads fuel r r').0 e).0)).sound

        by : (b : Bool) → is_done code inputs r' ≡ b → Ran reads run (if b then done_past first r' else Going r')
        by true d = ran-done r' sound' ((is-done-law code inputs r').0 d) run refl
        by false d = Ran.going r' sound' (goes-in-part r r' sound e d reads refl)

    by-next : (p : Past) → IsPastOf code inputs f args p → (o : Option Repair) → next_repair code inputs p ≡ o → Ran reads run (left_by code inputs first (slice_of code inputs fuel reads o))
    by-next p h None e = ran-first run refl
    by-next p h (Some r) e = by-slice r (next-sound p h r e) (sliced code own inputs reads fuel r) refl

    pub ran : (p : Past) → IsPastOf code inputs f args p → Ran reads run (past_after code inputs fuel first reads p)
    ran p h = by-next p h (next_repair code inputs p) refl
