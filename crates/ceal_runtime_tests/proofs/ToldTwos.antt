-- In these tests each write is one of 2, and is told so.
use Rattle.std.proofs.Common.{◌≡◌, ℕ, suc, zero, pos, inl, inr, Option, Some, List, [], ◌∷◌, insert, refl, subst, sym}
use Rattle.std.specs.Prelude.{Result, Ok, OnOk}
use Rattle.std.proofs.lemmas.Bool.Decides.{eqb_tells}
use Rattle.ceal_base.specs.declared.word.Place.{Place}
use Rattle.ceal_base.specs.declared.word.Word.{Word}
use Rattle.ceal_base.specs.declared.word.Word.TheVariants.{Num}
use Rattle.ceal_order.specs.Rising.{count_before}
use Rattle.ceal_mods.specs.Cell.{with_base, with_write}
use Rattle.ceal_mods.specs.Mods.{Contents, cell_of, Changes, IsUntouched, AllTold}
use Rattle.ceal_mods.specs.Writes.{Write, AreTold, stamps_of, without_one}
use Rattle.ceal_mods.specs.declared.cell.Cell.{Cell}
use Rattle.ceal_mods.proofs.IndexLemmas.{same_place}
use Rattle.ceal_runtime_tests.specs.Twos.{twos}

put-two : (s : ℕ) (ws : List Write) (i : ℕ) → AreTold twos ws → AreTold twos (insert ws i (record { stamp = s; value = Num (pos 2) }))
put-two s ws zero told = (refl, told)
put-two s [] (suc i) told = (refl, tt)
put-two s (w ∷ ws) (suc i) told = (told.0, put-two s ws i told.1)

-- one more write of 2
pub told-put : (order : List ℕ) (s : ℕ) (cell : Cell) → AreTold twos cell.writes → AreTold twos (with_write order s (Num (pos 2)) cell).writes
told-put order s cell told = put-two s cell.writes (count_before order s (stamps_of cell.writes)) told

-- one less
pub told-cut : (s : ℕ) (ws : List Write) → AreTold twos ws → AreTold twos (without_one s ws)
told-cut s [] told = tt
told-cut s (w ∷ ws) told = elim (eqb_tells w.stamp s) [ inl p ↦ rw p.0 told.1 | inr p ↦ rw p.0 (told.0, told-cut s ws told.1) ]

pub told-none : (mods : Contents) → IsUntouched mods → AllTold twos mods
told-none mods none p = rw (none p) tt

-- another cell at one place
pub told-changed : (old new : Contents) (p : Place) (cell : Cell) → Changes old new p cell → AreTold twos cell.writes → AllTold twos old → AllTold twos new
told-changed old new p cell changes here told q = elim (same_place q p) [
  | inl same ↦ subst (λ (r : Place). AreTold twos (cell_of new r).writes) (sym same.1) (rw changes.here here)
  | inr differ ↦ rw (changes.others q differ.1) (told q)
]

module _ (old new : Contents) (p : Place) where
  pub told-based : (v : Word) → Changes old new p (with_base v (cell_of old p)) → AllTold twos old → AllTold twos new
  told-based v changes told = told-changed old new p (with_base v (cell_of old p)) changes (told p) told

pub told-same : (old new : Contents) → new.cells ≡ old.cells → AllTold twos old → AllTold twos new
told-same old new same told p = rw same (told p)

-- what holds where a call succeeded
pub on-ok : {A E P : Type 0} (r : Result A E) (x : A) → r ≡ Ok x → OnOk r P → P
on-ok r x ok holds = rw ok at holds
