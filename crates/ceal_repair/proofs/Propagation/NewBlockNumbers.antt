-- Names of new blocks that continue the numbers that were given out, and turns with them.
use Rattle.std.proofs.Common.{◌≡◌, ℕ, zero, suc, ◌+◌, ◌≤◌, ◌<◌, inl, inr, Some, List, [], ◌∷◌, ◌++◌, slice_get, refl, arith}
use Rattle.std.proofs.lemmas.Bool.Decides.{eqb_tells}
use Rattle.ceal_base.specs.Block.{Block}
use Rattle.ceal_base.specs.declared.word.Word.{Word}
use Rattle.ceal_code.proofs.Words.SameIsEqual.{none-some}
use Rattle.ceal_code.specs.Program.{Code}
use Rattle.ceal_code.specs.Replay.{In, here, there, Distinct, count, core_numbers, Replays}
use Rattle.ceal_code.specs.Fitting.{Fits}
use Rattle.ceal_base.specs.Trace.{Trace, blocks_of}
use Rattle.ceal_repair.specs.Turning.{Since, NamesOff, IsOrigin, since_begun}
use Rattle.ceal_theory.proofs.Renaming.GivenNumbers.{handed-law}
use Rattle.ceal_theory.proofs.SlicedRepair.SliceLaws.{begin-law, slice-law}
use Rattle.ceal_theory.specs.Chosen.{Continues}
use Rattle.ceal_theory.specs.Laws.{Edited}
use Rattle.ceal_theory.specs.Named.{then_from}
use Rattle.ceal_theory.specs.Repair.{Single}
use Rattle.ceal_theory.specs.SliceLaws.{Turns}
use Rattle.ceal_theory.specs.Slices.{Repair, Slices, RepairHolds, beginning}

-- a number above all of these
pub above : List ℕ → ℕ
above [] = 0
above (b ∷ bs) = b + 1 + above bs

below-above : (b : ℕ) (bs : List ℕ) → In b bs → b < above bs
unfolding above
below-above b [] i = elim i [ ]
below-above b (c ∷ bs) here = omega arith
below-above b (c ∷ bs) (there i) = omega (arith, below-above b bs i)

pub none-above : (b : ℕ) (bs : List ℕ) → above bs ≤ b → count b bs ≡ 0
unfolding above
none-above b [] h = refl
none-above b (c ∷ bs) h = elim (eqb_tells c b) [
  | inl e ↦ absurd (omega (arith, h, e.1))
  | inr e ↦ let rest : count b bs ≡ 0 = none-above b bs (omega (arith, h)) in rw (e.0, rest) refl
]

-- names that continue these numbers, each another one, and none that of a block that was there at first
pub record GoesOn (chosen first : List ℕ) : Type 0 where
  pub names : ℕ → ℕ
  pub single : Single names
  pub apart : NamesOff names first
  pub continues : Continues chosen names

-- what is true of these numbers, and of all from the bound on, is true of each name
each-name : (P : ℕ → Type 0) (bs : List ℕ) (bound k : ℕ) → ((b : ℕ) → In b bs → P b) → ((j : ℕ) → P (bound + j)) → P (then_from bs bound k)
each-name P [] bound k h g = g k
each-name P (b ∷ bs) bound zero h g = h b here
each-name P (b ∷ bs) bound (suc k) h g = each-name P bs bound k (λ c i. h c (there i)) g

-- numbers that were given out are continued
pub goes-on : (first chosen : List ℕ) → Distinct chosen → ((b : ℕ) → In b chosen → count b first ≡ 0) → GoesOn chosen first
goes-on first chosen d a =
    let bound = above chosen + above first in
    let h = handed-law chosen bound d (λ b i. omega (arith, below-above b chosen i)) in
    record {
      names = then_from chosen bound;
      single = h.0;
      apart = λ k. each-name (λ b. count b first ≡ 0) chosen bound k a (λ j. none-above (bound + j) first (omega arith));
      continues = h.1;
    }

-- what continues more numbers continues the first of them
pub continues-front : (chosen made : List ℕ) (names : ℕ → ℕ) → Continues (chosen ++ made) names → Continues chosen names
continues-front chosen made names h k c e = h k c (front chosen k c e)
  where
    front : (bs : List ℕ) (k c : ℕ) → slice_get bs k ≡ Some c → slice_get (bs ++ made) k ≡ Some c
    front [] k c e = none-some c e
    front (d ∷ bs) zero c e = e
    front (d ∷ bs) (suc k) c e = front bs k c e

module _ (code : Code) (inputs : List Block) (f : ℕ) (args : List Word) (o : Since) (called : IsOrigin code inputs f args o) where
  module _ (names : ℕ → ℕ) where
    turns-hold : (r z : Repair) (n : ℕ) → RepairHolds code names inputs f args r → Turns code names inputs n r z → RepairHolds code names inputs f args z
    turns-hold r z n h Turns.none = h
    turns-hold r z n h (Turns.turn {n = m} {r' = r'} s t) = turns-hold r' z m (slice-law code names inputs f args called.fits r h (Some 1) r' s).sound t

    -- the result of turns holds
    pub turns-sound : Single names → NamesOff names o.first → (n : ℕ) (z : Repair) → Turns code names inputs n o.repair z → RepairHolds code names inputs f args z
    turns-sound single apart n z t = turns-hold o.repair z n (called.sound names single apart) t

  -- each new block is made by a step that was spent
  pub turns-room : (names : ℕ → ℕ) → (r z : Repair) (n : ℕ) → RepairHolds code names inputs f args r → Turns code names inputs n r z → z.number + r.spent ≤ r.number + z.spent
  turns-room names r z n h Turns.none = omega arith
  turns-room names r z n h (Turns.turn {n = m} {r' = r'} s t) =
      let one = slice-law code names inputs f args called.fits r h (Some 1) r' s in
      let rest = turns-room names r' z m one.sound t in omega (arith, one.room, rest)

-- turns, and one more
pub turns-more : (code : Code) (names : ℕ → ℕ) (inputs : List Block) (r z w : Repair) (n : ℕ) → Turns code names inputs n r z → Slices code names inputs (Some 1) z w
    → Turns code names inputs (suc n) r w
turns-more code names inputs r z w n Turns.none s = Turns.turn s Turns.none
turns-more code names inputs r z w n (Turns.turn {n = m} {r' = r'} s t) k = Turns.turn s (turns-more code names inputs r' z w m t k)

-- ---- turns from a trace of a call

module _ (code : Code) (inputs : List Block) (f : ℕ) (args : List Word) (l : Trace) (fits : Fits code inputs f args) (replays : Replays code inputs f args l) where
  -- the call as one that is edited, on the inputs as they are
  pub edited-here : Edited code inputs inputs f args l (above (core_numbers (blocks_of l)))
  edited-here = record { call = fits; fit = fits.blocks; extended = λ i block e. rw e refl; trace = replays; above = λ b h. none-above b (core_numbers (blocks_of l)) h }

  -- the repair that begins holds
  pub begins-sound : (names : ℕ → ℕ) → Single names → NamesOff names (core_numbers (blocks_of l)) → RepairHolds code names inputs f args (beginning code inputs l 0)
  begins-sound names single apart = begin-law code names inputs inputs f args l (above (core_numbers (blocks_of l))) 0 edited-here single (λ k h. apart k)

  pub is-origin : (numbers : ℕ) → IsOrigin code inputs f args (since_begun code inputs l numbers)
  is-origin numbers = record { fits = fits; sound = begins-sound }
