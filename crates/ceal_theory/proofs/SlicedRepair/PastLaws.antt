-- What is past belongs to the call.
use Rattle.std.proofs.Common.{◌≡◌, ℕ, ◌≤◌, Bool, true, false, Option, Some, None, List, [], ◌∷◌, inl, inr, refl, arith, if◌then◌else◌}
use Rattle.std.proofs.lemmas.Bool.Decides.{eqb_tells}
use Rattle.std.specs.Prelude.{IfSome}
use Rattle.ceal_base.specs.Block.{Block}
use Rattle.ceal_base.specs.Trace.{blocks_of}
use Rattle.ceal_base.specs.declared.word.Word.{Word}
use Rattle.ceal_code.specs.Fitting.{Fits}
use Rattle.ceal_code.specs.Program.{Code}
use Rattle.ceal_code.specs.Replay.{count, core_numbers, Replays}
use Rattle.ceal_theory.proofs.SlicedRepair.CarriedLaws.{own-single, edited-so}
use Rattle.ceal_theory.proofs.SlicedRepair.SliceLaws.{begin-law, slice-law, slices-law, done-law, is-done-law}
use Rattle.ceal_theory.specs.Adjust.{Above}
use Rattle.ceal_theory.specs.Computed.{Repaired}
use Rattle.ceal_theory.specs.Pasts.{Past, NoTrace, Traced, Going, first_past, number_above, done_past, left_by, past_after, IsPastOf, PastLaw}
use Rattle.ceal_theory.specs.Repair.{own}
use Rattle.ceal_theory.specs.Slices.{Repair, beginning, sliced, is_done, RepairHolds}

none-over : (b : ℕ) (bs : List ℕ) → number_above bs ≤ b → count b bs ≡ 0
none-over b [] h = refl
none-over b (c ∷ bs) h = elim (eqb_tells c b) [
  | inl e ↦ absurd (omega (arith, h, e.1))
  | inr e ↦ rw e.0 (omega (arith, none-over b bs (omega (arith, h))))
]

module _ (code : Code) (inputs : List Block) (f : ℕ) (args : List Word) (fits : Fits code inputs f args) (fuel : ℕ)
    (first : Option Repaired) (is : IfSome first (λ l. Replays code inputs f args l.items)) (k : Option ℕ) where
  of-first : (o : Option Repaired) → IfSome o (λ l. Replays code inputs f args l.items) → IsPastOf code inputs f args (first_past o)
  of-first None h = tt
  of-first (Some l) h = h

  of-done : (o : Option Repaired) (r : Repair) → Replays code inputs f args r.items → IsPastOf code inputs f args (done_past o r)
  of-done None r h = tt
  of-done (Some l) r h = h

  of-slice : (r : Repair) → RepairHolds code own inputs f args r → IsPastOf code inputs f args (left_by code inputs first (sliced code own inputs k fuel r))
  of-slice r h = at (sliced code own inputs k fuel r) refl
    where
      at : (o : Option Repair) → sliced code own inputs k fuel r ≡ o → IsPastOf code inputs f args (left_by code inputs first o)
      at None e = of-first first is
      at (Some z) e = by (is_done code inputs z) refl
        where
          sound : RepairHolds code own inputs f args z
          sound = (slice-law code own inputs f args fits r h k z (((slices-law code own inputs k fuel r z).0 e).0)).sound

          by : (b : Bool) → is_done code inputs z ≡ b → IsPastOf code inputs f args (if b then done_past first z else Going z)
          by true d = of-done first z (done-law code own inputs f args fits z sound ((is-done-law code inputs z).0 d)).replays
          by false d = sound

  pub past-stands : (p : Past) → IsPastOf code inputs f args p → IsPastOf code inputs f args (past_after code inputs fuel first k p)
  past-stands NoTrace h = of-first first is
  past-stands (Traced l) h =
      let n = number_above (core_numbers (blocks_of l.items)) in
      let above : Above n l.items = λ b i. none-over b (core_numbers (blocks_of l.items)) i in
      of-slice (beginning code inputs l.items n) (begin-law code own inputs inputs f args l.items n n (edited-so code inputs f args fits l.items h n above) own-single (λ j i. above j i))
  past-stands (Going r) h = of-slice r h

pub past-law : PastLaw
past-law code inputs f args fits fuel first is k p h = past-stands code inputs f args fits fuel first is k p h
