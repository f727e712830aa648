-- Cells whose writes are told with their values.
use Rattle.std.proofs.Common.{◌≡◌, ◌<◌, ℕ, suc, zero, inl, inr, Option, None, List, [], ◌∷◌, length, drop, get_or, refl, sym, subst, arith}
use Rattle.std.specs.Prelude.{unwrap_or}
use Rattle.std.specs.Map.{lookup}
use Rattle.ceal_base.specs.contracts.word.PlacePartialEq.TheImpl.{ghosts}
use Rattle.ceal_base.specs.declared.word.Place.{Place}
use Rattle.ceal_base.specs.declared.word.Word.{Word}
use Rattle.ceal_mods.specs.Cell.{untouched}
use Rattle.ceal_mods.specs.Index.{cell_in}
use Rattle.ceal_mods.specs.Marks.{Apart, CellsTold}
use Rattle.ceal_mods.specs.Writes.{AreTold}
use Rattle.ceal_mods.specs.declared.cell.Cell.{Cell}
use Rattle.ceal_mods.proofs.IndexLemmas.{same_place}

module _ (tells : ℕ → Option Word) where
  pub told-in : (es : List (Place × Cell)) (n : ℕ) → n < length es → CellsTold tells es → AreTold tells (cell_in es n).writes
  told-in [] n within told = absurd (omega arith)
  told-in (e ∷ es) zero within told = told.0
  told-in (e ∷ es) (suc n) within told = told-in es n (omega arith) told.1

  pub told-item : (es : List (Place × Cell)) (n : ℕ) (d : Place × Cell) → n < length es → CellsTold tells es → AreTold tells (get_or es n d).1.writes
  told-item [] n d within told = absurd (omega arith)
  told-item (e ∷ es) zero d within told = told.0
  told-item (e ∷ es) (suc n) d within told = told-item es n d (omega arith) told.1

  pub told-from : (n : ℕ) (es : List (Place × Cell)) → CellsTold tells es → CellsTold tells (drop n es)
  told-from zero es told = told
  told-from (suc n) [] told = told
  told-from (suc n) (e ∷ es) told = told-from n es told.1

  -- where no place has two cells, the cells of the places are all of them
  pub told-all : (es : List (Place × Cell)) → Apart es → ((p : Place) → AreTold tells (unwrap_or (lookup (ghosts.eq p) es) untouched).writes) → CellsTold tells es
  told-all [] apart told = tt
  told-all (e ∷ es) apart told = (
    elim (same_place e.0 e.0) [ inl same ↦ rw same.0 at (told e.0) | inr differ ↦ absurd (differ.1 refl) ],
    told-all es apart.1 (λ p. elim (same_place p e.0) [
      | inl same ↦ (let none : lookup (ghosts.eq p) es ≡ None = subst (λ (q : Place). lookup (ghosts.eq q) es ≡ None) (sym same.1) apart.0 in rw none tt)
      | inr differ ↦ rw differ.0 at (told p)
    ]),
  )
