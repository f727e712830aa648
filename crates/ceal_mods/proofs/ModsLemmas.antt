-- The cells of places.
use Rattle.std.proofs.Common.{◌≡◌, ◌≢◌, ℕ, zero, suc, cond, inl, inr, List, [], ◌∷◌, ◌++◌, Option, Some, None, refl, sym, ap, ◌∙◌}
use Rattle.std.specs.Prelude.{unwrap_or, IsSome, is_some, true, false, ◌↔◌}
use Rattle.std.specs.Map.{lookup}
use Rattle.std.proofs.lemmas.Bool.{cases_Bool}
use Rattle.ceal_base.specs.contracts.word.PlacePartialEq.TheImpl.{ghosts}
use Rattle.ceal_base.specs.declared.word.Place.{Place}
use Rattle.ceal_base.specs.declared.word.Word.{Word}
use Rattle.ceal_mods.specs.Cell.{untouched, Rises}
use Rattle.ceal_mods.specs.declared.cell.Cell.{Cell}
use Rattle.ceal_mods.specs.declared.index.Index.{Index}
use Rattle.ceal_mods.specs.Index.{cell_in, with_cell, slot_of, where_from, Indexes}
use Rattle.ceal_mods.specs.Mods.{Changes, places_of, is_among, with_place}
use Rattle.ceal_mods.specs.Slots.{no_slot}
use Rattle.ceal_mods.proofs.IndexLemmas.{same_place, Held, held, none_held, not_found, lookup_stands, lookup_with, lookup_pushed}

-- the cells of each place rise along an order
abbrev pub AllRise : List ℕ → List (Place × Cell) → Type 0
AllRise order cells = (p : Place) → Rises order (unwrap_or (lookup (ghosts.eq p) cells) untouched)

pub rise_same : (order : List ℕ) (cells after : List (Place × Cell)) → AllRise order cells → after ≡ cells → AllRise order after
rise_same order cells after rise same p = rw same (rise p)

pub rise_changed : (order : List ℕ) (cells after : List (Place × Cell)) (p : Place) (cell : Cell) → AllRise order cells
    → ((q : Place) → lookup (ghosts.eq q) after ≡ cond (ghosts.eq p q) (Some cell) (lookup (ghosts.eq q) cells))
    → Rises order cell → AllRise order after
rise_changed order cells after p cell rise updates rises q = elim (cases_Bool (ghosts.eq p q)) [
  | inl e ↦ (let here : lookup (ghosts.eq q) after ≡ Some cell = updates q ∙ rw e refl in rw here rises)
  | inr e ↦ (let same : lookup (ghosts.eq q) after ≡ lookup (ghosts.eq q) cells = updates q ∙ rw e refl in rw same (rise q))
]

-- ---- the places of cells

pub among-lookup : (p : Place) (es : List (Place × Cell)) → is_among p (places_of es) ≡ is_some (lookup (ghosts.eq p) es)
among-lookup p [] = refl
among-lookup p (e ∷ es) = elim (cases_Bool (ghosts.eq p e.0)) [ inl h ↦ rw h refl | inr h ↦ rw h (among-lookup p es) ]

pub cells-among : (p : Place) (es : List (Place × Cell)) → IsSome (lookup (ghosts.eq p) es) ↔ is_among p (places_of es) ≡ true
cells-among p es = rw (among-lookup p es) (λ h. h, λ h. h)

pub places-with : (k : ℕ) (c : Cell) (es : List (Place × Cell)) → places_of (with_cell k c es) ≡ places_of es
places-with k c [] = refl
places-with zero c (e ∷ es) = refl
places-with (suc k) c (e ∷ es) = ap (λ ps. e.0 ∷ ps) (places-with k c es)

places-pushed : (p : Place) (c : Cell) (es : List (Place × Cell)) → places_of (es ++ (p, c) ∷ []) ≡ places_of es ++ p ∷ []
places-pushed p c [] = refl
places-pushed p c (e ∷ es) = ap (λ ps. e.0 ∷ ps) (places-pushed p c es)

-- the cell of a place that has one is another one now
places-changed : (p : Place) (k : ℕ) (c : Cell) (es : List (Place × Cell)) → IsSome (lookup (ghosts.eq p) es) → places_of (with_cell k c es) ≡ with_place p (places_of es)
places-changed p k c es some = let here : is_among p (places_of es) ≡ true = among-lookup p es ∙ some in rw here (places-with k c es)

-- a place that has none gets one
places-added : (p : Place) (c : Cell) (es : List (Place × Cell)) → lookup (ghosts.eq p) es ≡ None → places_of (es ++ (p, c) ∷ []) ≡ with_place p (places_of es)
places-added p c es none =
    let absent : is_among p (places_of es) ≡ false = among-lookup p es ∙ ap (λ (o : Option Cell). is_some o) none in rw absent (places-pushed p c es)

-- one place has another cell, and the others have theirs
pub changes_as : (cells after : List (Place × Cell)) (looked differed : ℕ) (marked left : Option (List (Place × Word))) (p : Place) (cell : Cell) → left ≡ marked
    → ((q : Place) → lookup (ghosts.eq q) after ≡ cond (ghosts.eq p q) (Some cell) (lookup (ghosts.eq q) cells)) → places_of after ≡ with_place p (places_of cells)
    → Changes (record { cells = cells; looked = looked; differed = differed; marked = marked }) (record { cells = after; looked = looked; differed = differed; marked = left }) p cell
changes_as cells after looked differed marked left p cell same_marks updates placed = record {
  here = elim (same_place p p) [
    | inl same ↦ (let here : lookup (ghosts.eq p) after ≡ Some cell = updates p ∙ rw same.0 refl in ap (λ (o : Option Cell). unwrap_or o untouched) here)
    | inr differ ↦ absurd (differ.1 refl)
  ];
  others = λ q other. elim (same_place p q) [
    | inl same ↦ absurd (other (sym same.1))
    | inr differ ↦ (let there : lookup (ghosts.eq q) after ≡ lookup (ghosts.eq q) cells = updates q ∙ rw differ.0 refl in ap (λ (o : Option Cell). unwrap_or o untouched) there)
  ];
  places = placed;
  looked = refl;
  differed = refl;
  marked = same_marks;
}

-- where one place has another cell, it has one, and the others that had one have it
pub touched_now : (cells after : List (Place × Cell)) (p : Place) (cell : Cell) → ((q : Place) → lookup (ghosts.eq q) after ≡ cond (ghosts.eq p q) (Some cell) (lookup (ghosts.eq q) cells))
    → IsSome (lookup (ghosts.eq p) after)
touched_now cells after p cell updates = elim (same_place p p) [
  | inl same ↦ (let here : lookup (ghosts.eq p) after ≡ Some cell = updates p ∙ rw same.0 refl in rw here refl)
  | inr differ ↦ absurd (differ.1 refl)
]

pub touched_still : (cells after : List (Place × Cell)) (p : Place) (cell : Cell) → ((q : Place) → lookup (ghosts.eq q) after ≡ cond (ghosts.eq p q) (Some cell) (lookup (ghosts.eq q) cells))
    → (q : Place) → IsSome (lookup (ghosts.eq q) cells) → IsSome (lookup (ghosts.eq q) after)
touched_still cells after p cell updates q h = elim (cases_Bool (ghosts.eq p q)) [
  | inl e ↦ (let here : lookup (ghosts.eq q) after ≡ Some cell = updates q ∙ rw e refl in rw here refl)
  | inr e ↦ (let same : lookup (ghosts.eq q) after ≡ lookup (ghosts.eq q) cells = updates q ∙ rw e refl in rw same h)
]

-- ---- what was found of a place

module _ (index : Index) (cells : List (Place × Cell)) (p : Place) (slot : ℕ) (indexes : Indexes index cells) (is : slot ≡ slot_of index p) where
  module _ (some : slot ≢ no_slot) where
    pub at : Held cells p slot
    at = held index cells p slot indexes is some

    pub has_cell : IsSome (lookup (ghosts.eq p) cells)
    has_cell = rw (lookup_stands p cells slot at.stands) refl

    pub cell_here : unwrap_or (lookup (ghosts.eq p) cells) untouched ≡ cell_in cells slot
    cell_here = ap (λ (o : Option Cell). unwrap_or o untouched) (lookup_stands p cells slot at.stands)

    pub rises_here : (order : List ℕ) → AllRise order cells → Rises order (cell_in cells slot)
    rises_here order rise = rw cell_here at (rise p)

    pub changed : (looked differed : ℕ) (marked left : Option (List (Place × Word))) (cell : Cell) (after : List (Place × Cell)) → left ≡ marked → after ≡ with_cell slot cell cells
        → Changes (record { cells = cells; looked = looked; differed = differed; marked = marked }) (record { cells = after; looked = looked; differed = differed; marked = left }) p cell
    changed looked differed marked left cell after same now = rw now
        (changes_as cells (with_cell slot cell cells) looked differed marked left p cell same (λ q. lookup_with p q cells slot cell at.stands)
        (places-changed p slot cell cells has_cell))

    pub follow : (order : List ℕ) (cell : Cell) (after : List (Place × Cell)) → AllRise order cells → after ≡ with_cell slot cell cells → Rises order cell → AllRise order after
    follow order cell after rise now rises = rw now (rise_changed order cells (with_cell slot cell cells) p cell rise (λ q. lookup_with p q cells slot cell at.stands) rises)

    pub touched : (cell : Cell) (after : List (Place × Cell)) → after ≡ with_cell slot cell cells → IsSome (lookup (ghosts.eq p) after)
    touched cell after now = rw now (touched_now cells (with_cell slot cell cells) p cell (λ q. lookup_with p q cells slot cell at.stands))

    pub touched_too : (cell : Cell) (after : List (Place × Cell)) → after ≡ with_cell slot cell cells → (q : Place) → IsSome (lookup (ghosts.eq q) cells) → IsSome (lookup (ghosts.eq q) after)
    touched_too cell after now = rw now (touched_still cells (with_cell slot cell cells) p cell (λ q. lookup_with p q cells slot cell at.stands))

  module _ (none : slot ≡ no_slot) where
    pub nowhere : where_from 0 p cells ≡ no_slot
    nowhere = none_held index cells p slot indexes is none

    pub no_cell : lookup (ghosts.eq p) cells ≡ None
    no_cell = not_found index cells p indexes nowhere

    pub added_touched : (cell : Cell) (after : List (Place × Cell)) → after ≡ cells ++ (p, cell) ∷ [] → IsSome (lookup (ghosts.eq p) after)
    added_touched cell after now = rw now (touched_now cells (cells ++ (p, cell) ∷ []) p cell (λ q. lookup_pushed p q cell cells no_cell))

    pub added_too : (cell : Cell) (after : List (Place × Cell)) → after ≡ cells ++ (p, cell) ∷ [] → (q : Place) → IsSome (lookup (ghosts.eq q) cells) → IsSome (lookup (ghosts.eq q) after)
    added_too cell after now = rw now (touched_still cells (cells ++ (p, cell) ∷ []) p cell (λ q. lookup_pushed p q cell cells no_cell))

    pub cell_none : unwrap_or (lookup (ghosts.eq p) cells) untouched ≡ untouched
    cell_none = ap (λ (o : Option Cell). unwrap_or o untouched) (not_found index cells p indexes nowhere)

    pub added : (looked differed : ℕ) (marked : Option (List (Place × Word))) (cell : Cell) (after : List (Place × Cell)) → after ≡ cells ++ (p, cell) ∷ []
        → Changes (record { cells = cells; looked = looked; differed = differed; marked = marked }) (record { cells = after; looked = looked; differed = differed; marked = marked }) p cell
    added looked differed marked cell after now =
        rw now (changes_as cells (cells ++ (p, cell) ∷ []) looked differed marked marked p cell refl (λ q. lookup_pushed p q cell cells (not_found index cells p indexes nowhere))
        (places-added p cell cells (not_found index cells p indexes nowhere)))

    pub follow_added : (order : List ℕ) (cell : Cell) (after : List (Place × Cell)) → AllRise order cells → after ≡ cells ++ (p, cell) ∷ [] → Rises order cell → AllRise order after
    follow_added order cell after rise now rises =
        rw now (rise_changed order cells (cells ++ (p, cell) ∷ []) p cell rise (λ q. lookup_pushed p q cell cells (not_found index cells p indexes nowhere)) rises)
