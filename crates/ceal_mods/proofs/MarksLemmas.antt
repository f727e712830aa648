-- What is marked of cells, and which of it may be otherwise.
use Rattle.std.proofs.Common.{◌≡◌, ◌≢◌, ◌<◌, ◌≤◌, ℕ, suc, zero, nat_lt, inl, inr, true, false, List, [], ◌∷◌, ◌++◌, length, Option, Some, None, refl, sym, ap, subst, ◌∙◌, arith}
use Rattle.std.specs.Prelude.{IfSome, Result, Ok, Err, OnOk, OnErr}
use Rattle.std.specs.Map.{lookup}
use Rattle.std.proofs.lemmas.Bool.{cases_Bool, eq-eqb}
use Rattle.std.proofs.lemmas.Bool.Decides.{eqb_tells}
use Rattle.ceal_base.specs.contracts.word.PlacePartialEq.TheImpl.{ghosts}
use Rattle.ceal_base.specs.declared.word.Place.{Place}
use Rattle.ceal_base.specs.declared.word.Word.{Word}
use Rattle.ceal_order.proofs.Places.{in_tail}
use Rattle.ceal_order.specs.Stamps.{is_in, NotIn, Distinct, AllBelow}
use Rattle.ceal_mods.specs.Cell.{latest_value}
use Rattle.ceal_mods.specs.Index.{cell_in, with_cell, Indexes}
use Rattle.ceal_mods.specs.Marks.{Marked, SamePlaces, Apart, Watches, IsWhole, ends_in, ends_of, end_in, noted_in, noted, with_slot}
use Rattle.ceal_mods.specs.declared.cell.Cell.{Cell}
use Rattle.ceal_mods.specs.declared.index.Index.{Index}
use Rattle.ceal_mods.proofs.IndexLemmas.{same_place, still_indexes}

-- ---- cells that change and cells that come

same-with : (xs : List (Place × Word)) (es : List (Place × Cell)) (k : ℕ) (c : Cell) → SamePlaces xs es → SamePlaces xs (with_cell k c es)
same-with [] es k c same = tt
same-with (x ∷ xs) [] k c same = absurd same
same-with (x ∷ xs) (e ∷ es) zero c same = same
same-with (x ∷ xs) (e ∷ es) (suc k) c same = (same.0, same-with xs es k c same.1)

same-added : (xs : List (Place × Word)) (es : List (Place × Cell)) (e : Place × Cell) → SamePlaces xs es → SamePlaces xs (es ++ e ∷ [])
same-added [] es e same = tt
same-added (x ∷ xs) [] e same = absurd same
same-added (x ∷ xs) (d ∷ es) e same = (same.0, same-added xs es e same.1)

pub fewer : (xs : List (Place × Word)) (es : List (Place × Cell)) → SamePlaces xs es → length xs ≤ length es
fewer [] es same = omega arith
fewer (x ∷ xs) [] same = absurd same
fewer (x ∷ xs) (e ∷ es) same = let less = fewer xs es same.1 in omega (arith, less)

cell-other : (es : List (Place × Cell)) (k s : ℕ) (c : Cell) → k ≢ s → cell_in (with_cell k c es) s ≡ cell_in es s
cell-other [] k s c other = refl
cell-other (e ∷ es) zero zero c other = absurd (other refl)
cell-other (e ∷ es) zero (suc s) c other = refl
cell-other (e ∷ es) (suc k) zero c other = refl
cell-other (e ∷ es) (suc k) (suc s) c other = cell-other es k s c (λ same. other (ap suc same))

cell-added : (es : List (Place × Cell)) (e : Place × Cell) (s : ℕ) → s < length es → cell_in (es ++ e ∷ []) s ≡ cell_in es s
cell-added [] e s within = absurd (omega arith)
cell-added (d ∷ es) e zero within = refl
cell-added (d ∷ es) e (suc s) within = cell-added es e s (omega arith)

none-with : (p : Place) (es : List (Place × Cell)) (k : ℕ) (c : Cell) → lookup (ghosts.eq p) es ≡ None → lookup (ghosts.eq p) (with_cell k c es) ≡ None
none-with p [] k c none = none
none-with p (e ∷ es) zero c none = elim (cases_Bool (ghosts.eq p e.0)) [
  | inl here ↦ absurd (let no : Some e.1 ≡ None = rw here at none in cc)
  | inr other ↦ rw other (rw other at none)
]
none-with p (e ∷ es) (suc k) c none = elim (cases_Bool (ghosts.eq p e.0)) [
  | inl here ↦ absurd (let no : Some e.1 ≡ None = rw here at none in cc)
  | inr other ↦ rw other (none-with p es k c (rw other at none))
]

none-added : (p q : Place) (es : List (Place × Cell)) (c : Cell) → ghosts.eq p q ≡ false → lookup (ghosts.eq p) es ≡ None → lookup (ghosts.eq p) (es ++ (q, c) ∷ []) ≡ None
none-added p q [] c apart none = rw apart refl
none-added p q (e ∷ es) c apart none = elim (cases_Bool (ghosts.eq p e.0)) [
  | inl here ↦ absurd (let no : Some e.1 ≡ None = rw here at none in cc)
  | inr other ↦ rw other (none-added p q es c apart (rw other at none))
]

apart-with : (es : List (Place × Cell)) (k : ℕ) (c : Cell) → Apart es → Apart (with_cell k c es)
apart-with [] k c apart = tt
apart-with (e ∷ es) zero c apart = apart
apart-with (e ∷ es) (suc k) c apart = (none-with e.0 es k c apart.0, apart-with es k c apart.1)

apart-added : (p : Place) (c : Cell) (es : List (Place × Cell)) → lookup (ghosts.eq p) es ≡ None → Apart es → Apart (es ++ (p, c) ∷ [])
apart-added p c [] none apart = (refl, tt)
apart-added p c (e ∷ es) none apart = elim (same_place p e.0) [
  | inl here ↦ absurd (let no : Some e.1 ≡ None = rw here.0 at none in cc)
  | inr other ↦ elim (same_place e.0 p) [
    | inl same ↦ absurd (other.1 (sym same.1))
    | inr differ ↦ (none-added e.0 p es c differ.0 apart.0, apart-added p c es (rw other.0 at none) apart.1)
  ]
]

-- ---- slots that are listed

in-pushed : (s t : ℕ) (xs : List ℕ) → is_in s (xs ++ t ∷ []) ≡ false → (is_in s xs ≡ false) × (t ≢ s)
in-pushed s t [] none = elim (eqb_tells t s) [
  | inl same ↦ absurd (let no : true ≡ false = rw same.0 at none in cc)
  | inr other ↦ (refl, other.1)
]
in-pushed s t (x ∷ xs) none = elim (eqb_tells x s) [
  | inl same ↦ absurd (let no : true ≡ false = rw same.0 at none in cc)
  | inr other ↦ rw other.0 (in-pushed s t xs (rw other.0 at none))
]

notin-pushed : (s t : ℕ) (xs : List ℕ) → NotIn s xs → s ≢ t → NotIn s (xs ++ t ∷ [])
notin-pushed s t [] none other = (other, tt)
notin-pushed s t (x ∷ xs) none other = (none.0, notin-pushed s t xs none.1 other)

distinct-pushed : (t : ℕ) (xs : List ℕ) → is_in t xs ≡ false → Distinct xs → Distinct (xs ++ t ∷ [])
distinct-pushed t [] none distinct = (tt, tt)
distinct-pushed t (x ∷ xs) none distinct = elim (eqb_tells x t) [
  | inl same ↦ absurd (let no : true ≡ false = rw same.0 at none in cc)
  | inr other ↦ (notin-pushed x t xs distinct.0 other.1, distinct-pushed t xs (rw other.0 at none) distinct.1)
]

below-pushed : (n t : ℕ) (xs : List ℕ) → t < n → AllBelow n xs → AllBelow n (xs ++ t ∷ [])
below-pushed n t [] less below = (less, tt)
below-pushed n t (x ∷ xs) less below = (below.0, below-pushed n t xs less below.1)

-- what is so of the slots with one more
pub record WithSlot (n slot : ℕ) (slots new : List ℕ) : Type 0 where
  pub within : AllBelow n slots → AllBelow n new
  pub distinct : Distinct slots → Distinct new
  pub before : (s : ℕ) → is_in s new ≡ false → is_in s slots ≡ false
  pub there : slot < n → is_in slot new ≡ true

in-push : (t : ℕ) (xs : List ℕ) → is_in t (xs ++ t ∷ []) ≡ true
in-push t [] = rw (eq-eqb t t refl) refl
in-push t (x ∷ xs) = in_tail t x (xs ++ t ∷ []) (in-push t xs)

pub slot-listed : (n slot : ℕ) (slots : List ℕ) → WithSlot n slot slots (with_slot n slot slots)
slot-listed n slot slots = elim (cases_Bool (nat_lt slot n)) [
  | inl less ↦ elim (cases_Bool (is_in slot slots)) [
    | inl there ↦ rw (less, there) (record { within = λ h. h; distinct = λ h. h; before = λ s h. h; there = λ h. there })
    | inr none ↦
        let below : slot < n = grind (arith, less) in
        rw (less, none) (record {
          within = below-pushed n slot slots below;
          distinct = distinct-pushed slot slots none;
          before = λ s h. (in-pushed s slot slots h).0;
          there = λ h. in-push slot slots;
        })
  ]
  | inr more ↦ rw more (record { within = λ h. h; distinct = λ h. h; before = λ s h. h; there = λ h. absurd (grind (arith, more, h)) })
]

-- ---- what is marked

watches-noted : (m : Marked) (es : List (Place × Cell)) (k : ℕ) → Watches m es → Watches (noted_in k m) es
watches-noted m es k w =
    let l = slot-listed (length m.ends) k m.slots in
    record {
      places = w.places;
      within = l.within w.within;
      distinct = l.distinct w.distinct;
      same = λ s less none. w.same s less (l.before s none);
    }

watches-changed : (m : Marked) (es : List (Place × Cell)) (k : ℕ) (c : Cell) → Watches m es → Watches (noted_in k m) (with_cell k c es)
watches-changed m es k c w =
    let l = slot-listed (length m.ends) k m.slots in
    record {
      places = same-with m.ends es k c w.places;
      within = l.within w.within;
      distinct = l.distinct w.distinct;
      same = λ s less none. elim (eqb_tells k s) [
        | inl e ↦ absurd (let there : is_in s (with_slot (length m.ends) k m.slots) ≡ true = subst (λ (n : ℕ). is_in n (with_slot (length m.ends) k m.slots) ≡ true) e.1 (l.there (subst (λ
            (n : ℕ). n < length m.ends) (sym e.1) less)) in cc)
        | inr e ↦ w.same s less (l.before s none) ∙ ap latest_value (sym (cell-other es k s c e.1))
      ];
    }

cell-at : (es : List (Place × Cell)) (k : ℕ) (c : Cell) → k < length es → cell_in (with_cell k c es) k ≡ c
cell-at [] k c within = absurd (omega arith)
cell-at (e ∷ es) zero c within = refl
cell-at (e ∷ es) (suc k) c within = cell-at es k c (omega arith)

watches-same : (m : Marked) (es : List (Place × Cell)) (k : ℕ) (c : Cell) → latest_value c ≡ latest_value (cell_in es k) → Watches m es → Watches m (with_cell k c es)
watches-same m es k c ends w = record {
  places = same-with m.ends es k c w.places;
  within = w.within;
  distinct = w.distinct;
  same = λ s less none. elim (eqb_tells k s) [
    | inl e ↦
        let few = fewer m.ends es w.places in
        let within : k < length es = omega (arith, e.1, less, few) in
        let here : cell_in (with_cell k c es) s ≡ c = subst (λ (n : ℕ). cell_in (with_cell k c es) n ≡ c) e.1 (cell-at es k c within) in
        w.same s less none ∙ (ap (λ (n : ℕ). latest_value (cell_in es n)) (sym e.1) ∙ (sym ends ∙ ap latest_value (sym here)))
    | inr e ↦ w.same s less none ∙ ap latest_value (sym (cell-other es k s c e.1))
  ];
}

watches-added : (m : Marked) (es : List (Place × Cell)) (e : Place × Cell) → Watches m es → Watches m (es ++ e ∷ [])
watches-added m es e w = record {
  places = same-added m.ends es e w.places;
  within = w.within;
  distinct = w.distinct;
  same = λ s less none. (let few = fewer m.ends es w.places in w.same s less none ∙ ap latest_value (sym (cell-added es e s (omega (arith, less, few)))));
}

watched-noted : (marks : Option Marked) (es : List (Place × Cell)) (k : ℕ) → IfSome marks (λ m. Watches m es) → IfSome (noted k marks) (λ m. Watches m es)
watched-noted None es k w = tt
watched-noted (Some m) es k w = watches-noted m es k w

watched-changed : (marks : Option Marked) (es : List (Place × Cell)) (k : ℕ) (c : Cell) → IfSome marks (λ m. Watches m es) → IfSome (noted k marks) (λ m. Watches m (with_cell k c es))
watched-changed None es k c w = tt
watched-changed (Some m) es k c w = watches-changed m es k c w

watched-same : (marks : Option Marked) (es : List (Place × Cell)) (k : ℕ) (c : Cell) → latest_value c ≡ latest_value (cell_in es k) → IfSome marks (λ m. Watches m es) → IfSome marks (λ m.
    Watches m (with_cell k c es))
watched-same None es k c ends w = tt
watched-same (Some m) es k c ends w = watches-same m es k c ends w

watched-added : (marks : Option Marked) (es : List (Place × Cell)) (e : Place × Cell) → IfSome marks (λ m. Watches m es) → IfSome marks (λ m. Watches m (es ++ e ∷ []))
watched-added None es e w = tt
watched-added (Some m) es e w = watches-added m es e w

-- ---- what is true of all cells

module _ (index : Index) (cells : List (Place × Cell)) (marks : Option Marked) (w : IsWhole index cells marks) where
  pub whole-noted : (slot : ℕ) (after : List (Place × Cell)) (new : Option Marked) → after ≡ cells → new ≡ noted slot marks → IsWhole index after new
  whole-noted slot after new now is = rw (now, is) (record { indexes = w.indexes; apart = w.apart; watched = watched-noted marks cells slot w.watched })

  pub whole-changed : (slot : ℕ) (cell : Cell) (after : List (Place × Cell)) (new : Option Marked) → after ≡ with_cell slot cell cells → new ≡ noted slot marks → IsWhole index after new
  whole-changed slot cell after new now is = rw (now, is) (record {
    indexes = still_indexes index cells slot cell w.indexes;
    apart = apart-with cells slot cell w.apart;
    watched = watched-changed marks cells slot cell w.watched;
  })

  pub whole-same : (slot : ℕ) (cell : Cell) (after : List (Place × Cell)) → after ≡ with_cell slot cell cells → latest_value cell ≡ latest_value (cell_in cells slot) → IsWhole index after marks
  whole-same slot cell after now ends = rw now (record {
    indexes = still_indexes index cells slot cell w.indexes;
    apart = apart-with cells slot cell w.apart;
    watched = watched-same marks cells slot cell ends w.watched;
  })

  pub whole-added : (new : Index) (p : Place) (cell : Cell) (after : List (Place × Cell)) → lookup (ghosts.eq p) cells ≡ None → after ≡ cells ++ (p, cell) ∷ [] → Indexes new after → IsWhole
      new after marks
  whole-added new p cell after none now indexes = record {
    indexes = indexes;
    apart = rw now (apart-added p cell cells none w.apart);
    watched = rw now (watched-added marks cells (p, cell) w.watched);
  }

-- a place is marked as it was
pub ends-noted : (slot : ℕ) (marks : Option Marked) → ends_in (noted slot marks) ≡ ends_in marks
ends-noted slot None = refl
ends-noted slot (Some m) = refl

-- ---- what is marked now

same-ends : (es : List (Place × Cell)) → SamePlaces (ends_of es) es
same-ends [] = tt
same-ends (e ∷ es) = (refl, same-ends es)

end-now : (es : List (Place × Cell)) (s : ℕ) → s < length (ends_of es) → end_in (ends_of es) s ≡ latest_value (cell_in es s)
end-now [] s less = absurd (omega arith)
end-now (e ∷ es) zero less = refl
end-now (e ∷ es) (suc s) less = end-now es s (omega arith)

pub watches-now : (es : List (Place × Cell)) → Watches (record { ends = ends_of es; slots = [] }) es
watches-now es = record { places = same-ends es; within = tt; distinct = tt; same = λ s less none. end-now es s less }

pub whole-marked : (index : Index) (cells : List (Place × Cell)) (marks : Option Marked) → IsWhole index cells marks → (m : Marked) → m ≡ record { ends = ends_of cells; slots = [] } →
    IsWhole index cells (Some m)
whole-marked index cells marks w m is = record { indexes = w.indexes; apart = w.apart; watched = subst (λ (n : Marked). Watches n cells) (sym is) (watches-now cells) }

-- marked again, or left as it was where there was no memory
pub whole-renewed : {A E : Type 0} (index : Index) (cells : List (Place × Cell)) (marks : Option Marked) → IsWhole index cells marks → (old new : Marked) (r : Result A E) → marks ≡ Some old
    → OnOk r (new ≡ record { ends = ends_of cells; slots = [] }) → OnErr r (new ≡ old) → IsWhole index cells (Some new)
whole-renewed index cells marks w old new (Ok x) is ok err = whole-marked index cells marks w new ok
whole-renewed index cells marks w old new (Err x) is ok err = subst (λ (o : Option Marked). IsWhole index cells o) (is ∙ ap Some (sym err)) w
