-- Which places are told as changed: those that hold something else at the end than when they were marked, each once.
use Rattle.std.proofs.Common.{◌≡◌, ◌≢◌, ◌<◌, ◌≤◌, ◌+◌, ℕ, suc, zero, pos, inl, inr, ◌⊎◌, true, false, List}
use Rattle.std.proofs.Common.{[], ◌∷◌, ◌++◌, cond, length, drop, get_or, Option, Some, None, refl, sym, ap, subst, ◌∙◌, arith, rules}
use Rattle.std.specs.Bool.{Decides}
use Rattle.std.specs.Prelude.{unwrap_or, Result, Ok, Err, OnOk, IfOk}
use Rattle.std.specs.Map.{lookup}
use Rattle.std.proofs.lemmas.Bool.{cases_Bool, cases_lt, false≢true}
use Rattle.std.proofs.lemmas.Bool.Decides.{eqb_tells}
use Rattle.std.proofs.lemmas.List.Sums.{sum_by-append}
use Rattle.ceal_base.specs.contracts.word.PlacePartialEq.TheImpl.{ghosts}
use Rattle.ceal_base.specs.contracts.word.WordPartialEq.TheImpl.{ghosts as word_ghosts}
use Rattle.ceal_base.specs.declared.word.Place.{Place}
use Rattle.ceal_base.specs.declared.word.Word.{Word}
use Rattle.ceal_base.specs.declared.word.Word.TheVariants.{Num}
use Rattle.ceal_order.proofs.Places.{in_head, in_tail, not_in, below_of}
use Rattle.ceal_order.specs.Stamps.{is_in, NotIn, Distinct}
use Rattle.ceal_mods.specs.Cell.{untouched, latest_value}
use Rattle.ceal_mods.specs.Index.{cell_in}
use Rattle.ceal_mods.specs.Marks.{Marked, SamePlaces, Apart, Watches, end_in, ends_of, held_in, times, told_of, told_at, told, told_new}
use Rattle.ceal_mods.specs.declared.cell.Cell.{Cell}
use Rattle.ceal_mods.proofs.IndexLemmas.{Stands, lookup_stands, same_place}

word-Decides : (a b : Word) → Decides (word_ghosts.eq a b) (a ≡ b)
word-Decides a b = search rules

pub times-append : (p : Place) (xs ys : List Place) → times p (xs ++ ys) ≡ times p xs + times p ys
times-append p xs ys = sum_by-append (λ (q : Place). cond (ghosts.eq p q) 1 0) xs ys

-- ---- one place

one-other : (p q : Place) (held now : Word) → ghosts.eq p q ≡ false → times p (told_of q held now) ≡ 0
one-other p q held now other = elim (cases_Bool (word_ghosts.eq now held)) [
  | inl same ↦ rw same refl
  | inr differ ↦ rw (differ, other) refl
]

one-same : (p q : Place) (held now : Word) → now ≡ held → times p (told_of q held now) ≡ 0
one-same p q held now same = (let equal : word_ghosts.eq now held ≡ true = (word-Decides now held).1 same in rw equal refl)

one-differs : (p q : Place) (held now : Word) → ghosts.eq p q ≡ true → now ≢ held → times p (told_of q held now) ≡ 1
one-differs p q held now here differs = elim (cases_Bool (word_ghosts.eq now held)) [
  | inl same ↦ absurd (differs ((word-Decides now held).0 same))
  | inr differ ↦ rw (differ, here) refl
]

-- ---- where a place is

pub record At (p : Place) (es : List (Place × Cell)) : Type 0 where
  pub slot : ℕ
  pub within : slot < length es
  pub stands : Stands p es slot

found : (p : Place) (es : List (Place × Cell)) → (lookup (ghosts.eq p) es ≡ None) ⊎ At p es
found p [] = inl refl
found p (e ∷ es) = elim (cases_Bool (ghosts.eq p e.0)) [
  | inl here ↦ inr (record { slot = 0; within = omega arith; stands = here })
  | inr other ↦ elim (found p es) [
    | inl none ↦ inl (rw other none)
    | inr at ↦ inr (record { slot = suc at.slot; within = (let less = at.within in omega (arith, less)); stands = (other, at.stands) })
  ]
]

none-here : (p : Place) (e : Place × Cell) (es : List (Place × Cell)) → lookup (ghosts.eq p) (e ∷ es) ≡ None → (ghosts.eq p e.0 ≡ false) × (lookup (ghosts.eq p) es ≡ None)
none-here p e es none = elim (cases_Bool (ghosts.eq p e.0)) [
  | inl here ↦ absurd (let no : Some e.1 ≡ None = rw here at none in cc)
  | inr other ↦ (other, rw other at none)
]

-- the first of a place is its only one
none-behind : (p : Place) (e : Place × Cell) (es : List (Place × Cell)) → ghosts.eq p e.0 ≡ true → Apart (e ∷ es) → lookup (ghosts.eq p) es ≡ None
none-behind p e es here apart = elim (same_place p e.0) [
  | inl same ↦ subst (λ (q : Place). lookup (ghosts.eq q) es ≡ None) (sym same.1) apart.0
  | inr other ↦ absurd (false≢true (sym other.0 ∙ here))
]

-- ---- what was held

held-none : (p : Place) (xs : List (Place × Word)) (es : List (Place × Cell)) → SamePlaces xs es → lookup (ghosts.eq p) es ≡ None → lookup (ghosts.eq p) xs ≡ None
held-none p [] es same none = refl
held-none p (x ∷ xs) [] same none = absurd same
held-none p (x ∷ xs) (e ∷ es) same none =
    let n = none-here p e es none in
    let other : ghosts.eq p x.0 ≡ false = subst (λ (q : Place). ghosts.eq p q ≡ false) (sym same.0) n.0 in
    rw other (held-none p xs es same.1 n.1)

held-at : (p : Place) (xs : List (Place × Word)) (es : List (Place × Cell)) (k : ℕ) → SamePlaces xs es → Stands p es k → k < length xs → lookup (ghosts.eq p) xs ≡ Some (end_in xs k)
held-at p [] es k same stands less = absurd (omega arith)
held-at p (x ∷ xs) [] k same stands less = absurd same
held-at p (x ∷ xs) (e ∷ es) zero same stands less =
    (let here : ghosts.eq p x.0 ≡ true = subst (λ (q : Place). ghosts.eq p q ≡ true) (sym same.0) stands in rw here refl)
held-at p (x ∷ xs) (e ∷ es) (suc k) same stands less =
    let other : ghosts.eq p x.0 ≡ false = subst (λ (q : Place). ghosts.eq p q ≡ false) (sym same.0) stands.0 in
    rw other (held-at p xs es k same.1 stands.1 (omega arith))

held-beyond : (p : Place) (xs : List (Place × Word)) (es : List (Place × Cell)) (k : ℕ) → SamePlaces xs es → Stands p es k → length xs ≤ k → lookup (ghosts.eq p) xs ≡ None
held-beyond p [] es k same stands more = refl
held-beyond p (x ∷ xs) [] k same stands more = absurd same
held-beyond p (x ∷ xs) (e ∷ es) zero same stands more = absurd (omega arith)
held-beyond p (x ∷ xs) (e ∷ es) (suc k) same stands more =
    let other : ghosts.eq p x.0 ≡ false = subst (λ (q : Place). ghosts.eq p q ≡ false) (sym same.0) stands.0 in
    rw other (held-beyond p xs es k same.1 stands.1 (omega arith))

-- a place that is marked now holds what it held
pub held-now : (es : List (Place × Cell)) (p : Place) → held_in (ends_of es) p ≡ latest_value (unwrap_or (lookup (ghosts.eq p) es) untouched)
held-now [] p = refl
held-now (e ∷ es) p = elim (cases_Bool (ghosts.eq p e.0)) [
  | inl here ↦ rw here refl
  | inr other ↦ rw other (held-now es p)
]

-- ---- the place of a slot

at-none : (p : Place) (xs : List (Place × Word)) (es : List (Place × Cell)) (n : ℕ) (w : Word) → SamePlaces xs es → lookup (ghosts.eq p) es ≡ None → times p (told_at xs n w) ≡ 0
at-none p [] es n w same none = refl
at-none p (x ∷ xs) [] n w same none = absurd same
at-none p (x ∷ xs) (e ∷ es) zero w same none =
    let n = none-here p e es none in
    one-other p x.0 x.1 w (subst (λ (q : Place). ghosts.eq p q ≡ false) (sym same.0) n.0)
at-none p (x ∷ xs) (e ∷ es) (suc n) w same none = at-none p xs es n w same.1 (none-here p e es none).1

at-other : (p : Place) (xs : List (Place × Word)) (es : List (Place × Cell)) (k n : ℕ) (w : Word) → SamePlaces xs es → Apart es → Stands p es k → k ≢ n → times p (told_at xs n w) ≡ 0
at-other p [] es k n w same apart stands other = refl
at-other p (x ∷ xs) [] k n w same apart stands other = absurd same
at-other p (x ∷ xs) (e ∷ es) zero zero w same apart stands other = absurd (other refl)
at-other p (x ∷ xs) (e ∷ es) zero (suc n) w same apart stands other = at-none p xs es n w same.1 (none-behind p e es stands apart)
at-other p (x ∷ xs) (e ∷ es) (suc k) zero w same apart stands other =
    one-other p x.0 x.1 w (subst (λ (q : Place). ghosts.eq p q ≡ false) (sym same.0) stands.0)
at-other p (x ∷ xs) (e ∷ es) (suc k) (suc n) w same apart stands other = at-other p xs es k n w same.1 apart.1 stands.1 (λ e. other (ap suc e))

at-same : (p : Place) (xs : List (Place × Word)) (k : ℕ) → times p (told_at xs k (end_in xs k)) ≡ 0
at-same p [] k = refl
at-same p (x ∷ xs) zero = one-same p x.0 x.1 x.1 refl
at-same p (x ∷ xs) (suc k) = at-same p xs k

at-differs : (p : Place) (xs : List (Place × Word)) (es : List (Place × Cell)) (k : ℕ) (w : Word) → SamePlaces xs es → Stands p es k → k < length xs → w ≢ end_in xs k → times p (told_at xs k w) ≡ 1
at-differs p [] es k w same stands less differs = absurd (omega arith)
at-differs p (x ∷ xs) [] k w same stands less differs = absurd same
at-differs p (x ∷ xs) (e ∷ es) zero w same stands less differs =
    one-differs p x.0 x.1 w (subst (λ (q : Place). ghosts.eq p q ≡ true) (sym same.0) stands) differs
at-differs p (x ∷ xs) (e ∷ es) (suc k) w same stands less differs = at-differs p xs es k w same.1 stands.1 (omega arith) differs

pub told-at-is : (xs : List (Place × Word)) (n : ℕ) (d : Place × Word) (w : Word) → n < length xs → told_at xs n w ≡ told_of (get_or xs n d).0 (get_or xs n d).1 w
told-at-is [] n d w less = absurd (omega arith)
told-at-is (x ∷ xs) zero d w less = refl
told-at-is (x ∷ xs) (suc n) d w less = told-at-is xs n d w (omega arith)

-- ---- the places of slots

told-none : (p : Place) (xs : List (Place × Word)) (cells : List (Place × Cell)) (slots : List ℕ)
    → ((s : ℕ) → is_in s slots ≡ true → times p (told_at xs s (latest_value (cell_in cells s))) ≡ 0) → times p (told xs cells slots) ≡ 0
told-none p xs cells [] none = refl
told-none p xs cells (s ∷ ss) none =
    let here = none s (in_head s ss) in
    let rest = told-none p xs cells ss (λ t there. none t (in_tail t s ss there)) in
    times-append p (told_at xs s (latest_value (cell_in cells s))) (told xs cells ss) ∙ omega (arith, here, rest)

told-differs : (p : Place) (xs : List (Place × Word)) (cells : List (Place × Cell)) (k : ℕ) (slots : List ℕ) → SamePlaces xs cells → Apart cells → Stands p cells k → k < length xs
    → latest_value (cell_in cells k) ≢ end_in xs k → Distinct slots → is_in k slots ≡ true → times p (told xs cells slots) ≡ 1
told-differs p xs cells k [] same apart stands less differs distinct there = absurd (cc)
told-differs p xs cells k (s ∷ ss) same apart stands less differs distinct there = elim (eqb_tells s k) [
  | inl e ↦
      let here : times p (told_at xs s (latest_value (cell_in cells s))) ≡ 1 =
      subst (λ (n : ℕ). times p (told_at xs n (latest_value (cell_in cells n))) ≡ 1) (sym e.1) (at-differs p xs cells k (latest_value (cell_in cells k)) same stands less differs) in
      let rest = told-none p xs cells ss (λ t in-t. at-other p xs cells k t (latest_value (cell_in cells t)) same apart stands
      (λ same-t. (let no : is_in t ss ≡ false = not_in t ss (subst (λ (n : ℕ). NotIn n ss) (e.1 ∙ same-t) distinct.0) in false≢true (sym no ∙ in-t)))) in
      times-append p (told_at xs s (latest_value (cell_in cells s))) (told xs cells ss) ∙ omega (arith, here, rest)
  | inr e ↦
      let here = at-other p xs cells k s (latest_value (cell_in cells s)) same apart stands (λ z. e.1 (sym z)) in
      let rest = told-differs p xs cells k ss same apart stands less differs distinct.1 (rw e.0 at there) in
      times-append p (told_at xs s (latest_value (cell_in cells s))) (told xs cells ss) ∙ omega (arith, here, rest)
]

-- ---- the places of cells that came

new-none : (p : Place) (es : List (Place × Cell)) → lookup (ghosts.eq p) es ≡ None → times p (told_new es) ≡ 0
new-none p [] none = refl
new-none p (e ∷ es) none =
    let n = none-here p e es none in
    let here = one-other p e.0 (Num (pos 0)) (latest_value e.1) n.0 in
    let rest = new-none p es n.1 in
    times-append p (told_of e.0 (Num (pos 0)) (latest_value e.1)) (told_new es) ∙ omega (arith, here, rest)

new-same : (p : Place) (c : Cell) (es : List (Place × Cell)) → Apart es → lookup (ghosts.eq p) es ≡ Some c → latest_value c ≡ Num (pos 0) → times p (told_new es) ≡ 0
new-same p c [] apart found zeroed = absurd (cc)
new-same p c (e ∷ es) apart found zeroed = elim (cases_Bool (ghosts.eq p e.0)) [
  | inl here ↦
      let is : Some e.1 ≡ Some c = rw here at found in
      let first = one-same p e.0 (Num (pos 0)) (latest_value e.1) (subst (λ (o : Option Cell). latest_value (unwrap_or o c) ≡ Num (pos 0)) (sym is) zeroed) in
      let rest = new-none p es (none-behind p e es here apart) in
      times-append p (told_of e.0 (Num (pos 0)) (latest_value e.1)) (told_new es) ∙ omega (arith, first, rest)
  | inr other ↦
      let first = one-other p e.0 (Num (pos 0)) (latest_value e.1) other in
      let rest = new-same p c es apart.1 (rw other at found) zeroed in
      times-append p (told_of e.0 (Num (pos 0)) (latest_value e.1)) (told_new es) ∙ omega (arith, first, rest)
]

new-differs : (p : Place) (c : Cell) (es : List (Place × Cell)) → Apart es → lookup (ghosts.eq p) es ≡ Some c → latest_value c ≢ Num (pos 0) → times p (told_new es) ≡ 1
new-differs p c [] apart found differs = absurd (cc)
new-differs p c (e ∷ es) apart found differs = elim (cases_Bool (ghosts.eq p e.0)) [
  | inl here ↦
      let is : Some e.1 ≡ Some c = rw here at found in
      let first = one-differs p e.0 (Num (pos 0)) (latest_value e.1) here (subst (λ (o : Option Cell). latest_value (unwrap_or o c) ≢ Num (pos 0)) (sym is) differs) in
      let rest = new-none p es (none-behind p e es here apart) in
      times-append p (told_of e.0 (Num (pos 0)) (latest_value e.1)) (told_new es) ∙ omega (arith, first, rest)
  | inr other ↦
      let first = one-other p e.0 (Num (pos 0)) (latest_value e.1) other in
      let rest = new-differs p c es apart.1 (rw other at found) differs in
      times-append p (told_of e.0 (Num (pos 0)) (latest_value e.1)) (told_new es) ∙ omega (arith, first, rest)
]

-- ---- the cells from a slot on

drop-apart : (n : ℕ) (es : List (Place × Cell)) → Apart es → Apart (drop n es)
drop-apart zero es apart = apart
drop-apart (suc n) [] apart = apart
drop-apart (suc n) (e ∷ es) apart = drop-apart n es apart.1

drop-none : (p : Place) (n : ℕ) (es : List (Place × Cell)) → lookup (ghosts.eq p) es ≡ None → lookup (ghosts.eq p) (drop n es) ≡ None
drop-none p zero es none = none
drop-none p (suc n) [] none = none
drop-none p (suc n) (e ∷ es) none = drop-none p n es (none-here p e es none).1

drop-before : (p : Place) (n k : ℕ) (es : List (Place × Cell)) → Apart es → Stands p es k → k < n → lookup (ghosts.eq p) (drop n es) ≡ None
drop-before p zero k es apart stands less = absurd (omega arith)
drop-before p (suc n) k [] apart stands less = refl
drop-before p (suc n) zero (e ∷ es) apart stands less = drop-none p n es (none-behind p e es stands apart)
drop-before p (suc n) (suc k) (e ∷ es) apart stands less = drop-before p n k es apart.1 stands.1 (omega arith)

drop-behind : (p : Place) (n k : ℕ) (es : List (Place × Cell)) → Stands p es k → n ≤ k → lookup (ghosts.eq p) (drop n es) ≡ Some (cell_in es k)
drop-behind p zero k es stands more = lookup_stands p es k stands
drop-behind p (suc n) k [] stands more = absurd stands
drop-behind p (suc n) zero (e ∷ es) stands more = absurd (omega arith)
drop-behind p (suc n) (suc k) (e ∷ es) stands more = drop-behind p n k es stands.1 (omega arith)

-- ---- all that is told

module _ (m : Marked) (cells : List (Place × Cell)) (w : Watches m cells) (apart : Apart cells) (p : Place) where
  abbrev pub now : Word
  now = latest_value (unwrap_or (lookup (ghosts.eq p) cells) untouched)

  abbrev pub all-told : List Place
  all-told = told m.ends cells m.slots ++ told_new (drop (length m.ends) cells)

  sum : times p all-told ≡ times p (told m.ends cells m.slots) + times p (told_new (drop (length m.ends) cells))
  sum = times-append p (told m.ends cells m.slots) (told_new (drop (length m.ends) cells))

  module _ (none : lookup (ghosts.eq p) cells ≡ None) where
    none-now : now ≡ Num (pos 0)
    none-now = rw none refl

    none-held : held_in m.ends p ≡ Num (pos 0)
    none-held = (let no = held-none p m.ends cells w.places none in rw no refl)

    none-told : times p all-told ≡ 0
    none-told =
        let a = told-none p m.ends cells m.slots (λ s there. at-none p m.ends cells s (latest_value (cell_in cells s)) w.places none) in
        let b = new-none p (drop (length m.ends) cells) (drop-none p (length m.ends) cells none) in
        sum ∙ omega (arith, a, b)

  module _ (at : At p cells) where
    at-now : now ≡ latest_value (cell_in cells at.slot)
    at-now = (let is = lookup_stands p cells at.slot at.stands in rw is refl)

    module _ (less : at.slot < length m.ends) where
      old-held : held_in m.ends p ≡ end_in m.ends at.slot
      old-held = (let is = held-at p m.ends cells at.slot w.places at.stands less in rw is refl)

      old-new : times p (told_new (drop (length m.ends) cells)) ≡ 0
      old-new = new-none p (drop (length m.ends) cells) (drop-before p (length m.ends) at.slot cells apart at.stands less)

      old-same : latest_value (cell_in cells at.slot) ≡ end_in m.ends at.slot → times p all-told ≡ 0
      old-same same =
          let a = told-none p m.ends cells m.slots (λ s there. elim (eqb_tells at.slot s) [
            | inl e ↦ subst (λ (n : ℕ). times p (told_at m.ends n (latest_value (cell_in cells n))) ≡ 0) e.1
                (subst (λ (v : Word). times p (told_at m.ends at.slot v) ≡ 0) (sym same) (at-same p m.ends at.slot))
            | inr e ↦ at-other p m.ends cells at.slot s (latest_value (cell_in cells s)) w.places apart at.stands e.1
          ]) in
          let b = old-new in
          sum ∙ omega (arith, a, b)

      old-differs : latest_value (cell_in cells at.slot) ≢ end_in m.ends at.slot → times p all-told ≡ 1
      old-differs differs = elim (cases_Bool (is_in at.slot m.slots)) [
        | inl there ↦
            let a = told-differs p m.ends cells at.slot m.slots w.places apart at.stands less differs w.distinct there in
            let b = old-new in
            sum ∙ omega (arith, a, b)
        | inr none ↦ absurd (differs (sym (w.same at.slot less none)))
      ]

    module _ (more : length m.ends ≤ at.slot) where
      new-held : held_in m.ends p ≡ Num (pos 0)
      new-held = (let no = held-beyond p m.ends cells at.slot w.places at.stands more in rw no refl)

      new-old : times p (told m.ends cells m.slots) ≡ 0
      new-old = told-none p m.ends cells m.slots (λ s there. at-other p m.ends cells at.slot s (latest_value (cell_in cells s)) w.places apart at.stands
          (λ e. (let below = below_of s (length m.ends) m.slots there w.within in absurd (omega (arith, e, below, more)))))

      new-at : lookup (ghosts.eq p) (drop (length m.ends) cells) ≡ Some (cell_in cells at.slot)
      new-at = drop-behind p (length m.ends) at.slot cells at.stands more

      came-same : latest_value (cell_in cells at.slot) ≡ Num (pos 0) → times p all-told ≡ 0
      came-same zeroed =
          let a = new-old in
          let b = new-same p (cell_in cells at.slot) (drop (length m.ends) cells) (drop-apart (length m.ends) cells apart) new-at zeroed in
          sum ∙ omega (arith, a, b)

      came-differs : latest_value (cell_in cells at.slot) ≢ Num (pos 0) → times p all-told ≡ 1
      came-differs differs =
          let a = new-old in
          let b = new-differs p (cell_in cells at.slot) (drop (length m.ends) cells) (drop-apart (length m.ends) cells apart) new-at differs in
          sum ∙ omega (arith, a, b)

  -- a place that holds what it held is not told
  pub told-not : now ≡ held_in m.ends p → times p all-told ≡ 0
  told-not same = elim (found p cells) [
    | inl none ↦ none-told none
    | inr at ↦ elim (cases_lt at.slot (length m.ends)) [
      | inl less ↦ old-same at less (sym (at-now at) ∙ (same ∙ old-held at less))
      | inr more ↦ came-same at more (sym (at-now at) ∙ (same ∙ new-held at more))
    ]
  ]

  -- a place that holds something else is told once
  pub told-once : now ≢ held_in m.ends p → times p all-told ≡ 1
  told-once differs = elim (found p cells) [
    | inl none ↦ absurd (differs (none-now none ∙ sym (none-held none)))
    | inr at ↦ elim (cases_lt at.slot (length m.ends)) [
      | inl less ↦ old-differs at less (λ e. differs (at-now at ∙ (e ∙ sym (old-held at less))))
      | inr more ↦ came-differs at more (λ e. differs (at-now at ∙ (e ∙ sym (new-held at more))))
    ]
  ]

-- ---- the same of answers

pub renewed-held : {A E : Type 0} (r : Result A E) (new : Marked) (cells : List (Place × Cell)) → OnOk r (new ≡ record { ends = ends_of cells; slots = [] })
    → OnOk r ((p : Place) → held_in new.ends p ≡ latest_value (unwrap_or (lookup (ghosts.eq p) cells) untouched))
renewed-held (Ok x) new cells is = λ p. ap (λ (m : Marked). held_in m.ends p) is ∙ held-now cells p
renewed-held (Err x) new cells is = tt

-- what is true of an answer that has these places
pub if-listed : {A E : Type 0} (r : Result A E) (items : A → List Place) (xs : List Place) (P : A → Type 0) → IfOk r (λ v. items v ≡ xs) → ((v : A) → items v ≡ xs → P v) → IfOk r P
if-listed (Ok x) items xs P h f = f x h
if-listed (Err x) items xs P h f = tt
