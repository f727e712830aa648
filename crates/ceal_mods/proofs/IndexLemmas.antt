-- The cells of places and their slots.
use Rattle.std.proofs.Common.{◌≡◌, ◌≢◌, ◌<◌, ◌≤◌, ◌+◌, ℕ, suc, zero, cond, inl, inr, ◌⊎◌, true, false, List, [], ◌∷◌, ◌++◌, length, get_or, set, Option, Some, None, refl, sym, ap, subst, ◌∙◌, arith}
use Rattle.std.proofs.Common.{rules, length-append}
use Rattle.std.specs.Prelude.{IsSome, ◌↔◌}
use Rattle.std.specs.Bool.{Decides}
use Rattle.std.specs.Map.{lookup}
use Rattle.std.proofs.lemmas.Bool.{cases_Bool, false≢true}
use Rattle.ceal_base.specs.contracts.word.PlacePartialEq.TheImpl.{ghosts}
use Rattle.ceal_base.specs.declared.word.Place.{Place}
use Rattle.ceal_mods.specs.declared.cell.Cell.{Cell}
use Rattle.ceal_mods.specs.declared.index.Index.{Index}
use Rattle.ceal_mods.specs.Index.{where_from, cell_in, with_cell, slot_of, Indexes}
use Rattle.ceal_mods.specs.Slots.{no_slot}

pub place-decides : (p q : Place) → Decides (ghosts.eq p q) (p ≡ q)
place-decides p q = search rules

pub same_place : (p q : Place) → ((ghosts.eq p q ≡ true) × (p ≡ q)) ⊎ ((ghosts.eq p q ≡ false) × (p ≢ q))
same_place p q = elim (cases_Bool (ghosts.eq p q)) [
  | inl equal ↦ inl (equal, (place-decides p q).0 equal)
  | inr differ ↦ inr (differ, λ same. false≢true (sym differ ∙ (place-decides p q).1 same))
]

-- the first cell of a place is at a slot
abbrev pub Stands : Place → List (Place × Cell) → ℕ → Type 0
Stands p [] k = ⊥
Stands p (e ∷ es) zero = ghosts.eq p e.0 ≡ true
Stands p (e ∷ es) (suc k) = (ghosts.eq p e.0 ≡ false) × Stands p es k

pub record Found (i : ℕ) (p : Place) (es : List (Place × Cell)) : Type 0 where
  pub slot : ℕ
  pub is : where_from i p es ≡ i + slot
  pub within : slot < length es
  pub stands : Stands p es slot

pub slot_found : (i : ℕ) (p : Place) (es : List (Place × Cell)) → where_from i p es ≢ no_slot → Found i p es
slot_found i p [] some = absurd (some refl)
slot_found i p (e ∷ es) some = elim (cases_Bool (ghosts.eq p e.0)) [
  | inl here ↦ record { slot = 0; is = rw here (omega arith); within = omega arith; stands = here }
  | inr not_here ↦
      let rest = slot_found (suc i) p es (rw not_here at some) in
      let at : suc i + rest.slot ≡ i + suc rest.slot = omega arith in
      record { slot = suc rest.slot; is = rw not_here (rest.is ∙ at); within = (let less = rest.within in omega (arith, less)); stands = (not_here, rest.stands) }
]

pub slot_none : (i : ℕ) (p : Place) (es : List (Place × Cell)) → i + length es ≤ no_slot → where_from i p es ≡ no_slot → lookup (ghosts.eq p) es ≡ None
slot_none i p [] few none = refl
slot_none i p (e ∷ es) few none = elim (cases_Bool (ghosts.eq p e.0)) [
  | inl here ↦ absurd (let no : i ≡ no_slot = rw here at none in omega (arith, no, few))
  | inr not_here ↦ rw not_here (slot_none (suc i) p es (omega arith) (rw not_here at none))
]

pub where_pushed : (i : ℕ) (p : Place) (c : Cell) (es : List (Place × Cell)) → i + length es ≤ no_slot → where_from i p es ≡ no_slot
    → where_from i p (es ++ (p, c) ∷ []) ≡ i + length es
where_pushed i p c [] few none = rw ((place-decides p p).1 refl) (omega arith)
where_pushed i p c (e ∷ es) few none = elim (cases_Bool (ghosts.eq p e.0)) [
  | inl here ↦ absurd (let no : i ≡ no_slot = rw here at none in omega (arith, no, few))
  | inr not_here ↦
      let at : suc i + length es ≡ i + suc (length es) = omega arith in
      rw not_here (where_pushed (suc i) p c es (omega arith) (rw not_here at none) ∙ at)
]

pub where_other : (i : ℕ) (p q : Place) (c : Cell) (es : List (Place × Cell)) → q ≢ p → where_from i q (es ++ (p, c) ∷ []) ≡ where_from i q es
where_other i p q c [] other = elim (same_place q p) [ inl same ↦ absurd (other same.1) | inr differ ↦ rw differ.0 refl ]
where_other i p q c (e ∷ es) other = ap (λ (n : ℕ). cond (ghosts.eq q e.0) i n) (where_other (suc i) p q c es other)

pub lookup_pushed : (p q : Place) (c : Cell) (es : List (Place × Cell)) → lookup (ghosts.eq p) es ≡ None
    → lookup (ghosts.eq q) (es ++ (p, c) ∷ []) ≡ cond (ghosts.eq p q) (Some c) (lookup (ghosts.eq q) es)
lookup_pushed p q c [] none = elim (same_place p q) [
  | inl same ↦ rw (same.0, (place-decides q p).1 (sym same.1)) refl
  | inr differ ↦ elim (same_place q p) [ inl same ↦ absurd (differ.1 (sym same.1)) | inr other ↦ rw (differ.0, other.0) refl ]
]
lookup_pushed p q c (e ∷ es) none = elim (cases_Bool (ghosts.eq p e.0)) [
  | inl here ↦ absurd (let no : Some e.1 ≡ None = rw here at none in cc)
  | inr not_here ↦
      let rest = lookup_pushed p q c es (rw not_here at none) in
      elim (same_place p q) [
        | inl same ↦ (let other : ghosts.eq q e.0 ≡ false = subst (λ (r : Place). ghosts.eq r e.0 ≡ false) same.1 not_here in rw other rest)
        | inr differ ↦ rw differ.0 (ap (λ (o : Option Cell). cond (ghosts.eq q e.0) (Some e.1) o) (rw differ.0 at rest))
      ]
]

pub length-with : (k : ℕ) (c : Cell) (es : List (Place × Cell)) → length (with_cell k c es) ≡ length es
length-with k c [] = refl
length-with zero c (e ∷ es) = refl
length-with (suc k) c (e ∷ es) = ap suc (length-with k c es)

pub where_with : (i : ℕ) (q : Place) (k : ℕ) (c : Cell) (es : List (Place × Cell)) → where_from i q (with_cell k c es) ≡ where_from i q es
where_with i q k c [] = refl
where_with i q zero c (e ∷ es) = refl
where_with i q (suc k) c (e ∷ es) = ap (λ (n : ℕ). cond (ghosts.eq q e.0) i n) (where_with (suc i) q k c es)

pub lookup_stands : (p : Place) (es : List (Place × Cell)) (k : ℕ) → Stands p es k → lookup (ghosts.eq p) es ≡ Some (cell_in es k)
lookup_stands p [] k stands = absurd stands
lookup_stands p (e ∷ es) zero stands = rw stands refl
lookup_stands p (e ∷ es) (suc k) stands = rw stands.0 (lookup_stands p es k stands.1)

pub lookup_with : (p q : Place) (es : List (Place × Cell)) (k : ℕ) (c : Cell) → Stands p es k
    → lookup (ghosts.eq q) (with_cell k c es) ≡ cond (ghosts.eq p q) (Some c) (lookup (ghosts.eq q) es)
lookup_with p q [] k c stands = absurd stands
lookup_with p q (e ∷ es) zero c stands = elim (same_place p q) [
  | inl same ↦ (let here : ghosts.eq q e.0 ≡ true = subst (λ (r : Place). ghosts.eq r e.0 ≡ true) same.1 stands in rw (same.0, here) refl)
  | inr differ ↦ elim (same_place q e.0) [
    | inl same ↦ absurd (differ.1 ((place-decides p e.0).0 stands ∙ sym same.1))
    | inr other ↦ rw (differ.0, other.0) refl
  ]
]
lookup_with p q (e ∷ es) (suc k) c stands =
    let rest = lookup_with p q es k c stands.1 in
    elim (same_place p q) [
      | inl same ↦ (let other : ghosts.eq q e.0 ≡ false = subst (λ (r : Place). ghosts.eq r e.0 ≡ false) same.1 stands.0 in rw other rest)
      | inr differ ↦ rw differ.0 (ap (λ (o : Option Cell). cond (ghosts.eq q e.0) (Some e.1) o) (rw differ.0 at rest))
    ]

-- ---- cells in a slice

pub cell_is : (es : List (Place × Cell)) (n : ℕ) (d : Place × Cell) → n < length es → cell_in es n ≡ (get_or es n d).1
cell_is [] n d within = absurd (omega arith)
cell_is (e ∷ es) zero d within = refl
cell_is (e ∷ es) (suc n) d within = cell_is es n d (omega arith)

pub with_set : (es : List (Place × Cell)) (n : ℕ) (d : Place × Cell) (c : Cell) → n < length es → set es n ((get_or es n d).0, c) ≡ with_cell n c es
with_set [] n d c within = absurd (omega arith)
with_set (e ∷ es) zero d c within = refl
with_set (e ∷ es) (suc n) d c within = ap (λ (l : List (Place × Cell)). e ∷ l) (with_set es n d c (omega arith))

pub cell_with : (es : List (Place × Cell)) (n : ℕ) (c : Cell) → n < length es → cell_in (with_cell n c es) n ≡ c
cell_with [] n c within = absurd (omega arith)
cell_with (e ∷ es) zero c within = refl
cell_with (e ∷ es) (suc n) c within = cell_with es n c (omega arith)

-- ---- what an index tells

pub record Held (cells : List (Place × Cell)) (p : Place) (slot : ℕ) : Type 0 where
  pub within : slot < length cells
  pub stands : Stands p cells slot

pub held_at : (cells : List (Place × Cell)) (p : Place) (slot : ℕ) → slot ≡ where_from 0 p cells → slot ≢ no_slot → Held cells p slot
held_at cells p slot at some =
    let f = slot_found 0 p cells (λ none. some (at ∙ none)) in
    let same : slot ≡ f.slot = omega (arith, at, f.is) in
    record { within = rw same f.within; stands = rw same f.stands }

-- the slot of a place is that to which the index leads
pub leads : (index : Index) (cells : List (Place × Cell)) (p : Place) (slot : ℕ) → Indexes index cells → slot ≡ where_from 0 p cells → slot ≡ slot_of index p
leads index cells p slot indexes is = is ∙ sym (indexes.slots p)

pub held : (index : Index) (cells : List (Place × Cell)) (p : Place) (slot : ℕ) → Indexes index cells → slot ≡ slot_of index p → slot ≢ no_slot → Held cells p slot
held index cells p slot indexes is some = held_at cells p slot (is ∙ indexes.slots p) some

pub none_held : (index : Index) (cells : List (Place × Cell)) (p : Place) (slot : ℕ) → Indexes index cells → slot ≡ slot_of index p → slot ≡ no_slot
    → where_from 0 p cells ≡ no_slot
none_held index cells p slot indexes is none = sym (is ∙ indexes.slots p) ∙ none

pub not_found : (index : Index) (cells : List (Place × Cell)) (p : Place) → Indexes index cells → where_from 0 p cells ≡ no_slot → lookup (ghosts.eq p) cells ≡ None
not_found index cells p indexes none = slot_none 0 p cells (let few = indexes.few in omega arith) none

-- a place has a cell if it has a slot, and only then
pub cell_told : (index : Index) (cells : List (Place × Cell)) (p : Place) → Indexes index cells → (where_from 0 p cells ≢ no_slot) ↔ IsSome (lookup (ghosts.eq p) cells)
cell_told index cells p indexes = (
  (λ some. let h = held_at cells p (where_from 0 p cells) refl some in rw (lookup_stands p cells (where_from 0 p cells) h.stands) refl),
  (λ has none. let no = not_found index cells p indexes none in absurd (grind (arith, rw no at has))),
)

pub still_indexes : (index : Index) (cells : List (Place × Cell)) (k : ℕ) (c : Cell) → Indexes index cells → Indexes index (with_cell k c cells)
still_indexes index cells k c indexes = record {
  slots = λ p. indexes.slots p ∙ sym (where_with 0 p k c cells);
  few = rw (length-with k c cells) indexes.few;
}

pub more_indexes : (old new : Index) (cells : List (Place × Cell)) (p : Place) (c : Cell) → Indexes old cells → where_from 0 p cells ≡ no_slot → length cells < no_slot
    → slot_of new p ≡ length cells → ((q : Place) → q ≢ p → slot_of new q ≡ slot_of old q) → Indexes new (cells ++ (p, c) ∷ [])
more_indexes old new cells p c indexes none few here others =
    let here_at : slot_of new p ≡ 0 + length cells = omega (arith, here) in
    record {
      slots = λ q. elim (same_place p q) [
        | inl same ↦ subst (λ (r : Place). slot_of new r ≡ where_from 0 r (cells ++ (p, c) ∷ [])) same.1 (here_at ∙ sym (where_pushed 0 p c cells (let few' = indexes.few in omega arith) none))
        | inr differ ↦ others q (λ e. differ.1 (sym e)) ∙ (indexes.slots q ∙ sym (where_other 0 p q c cells (λ e. differ.1 (sym e))))
      ];
      few = omega (arith, few, length-append cells ((p, c) ∷ []));
    }
