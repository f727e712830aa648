-- The places of inputs in a list, and how often each is there.
use Rattle.std.proofs.Common.{◌≡◌, ◌+◌, ◌<◌, ◌≤◌, ℕ, true, false, cond, inl, inr, List, [], ◌∷◌, ◌++◌, count_by, get_or, length, take, refl, sym, ap, ap₂, subst, ◌∙◌, arith}
use Rattle.std.proofs.Common.{rules}
use Rattle.std.specs.Bool.{Decides}
use Rattle.std.specs.List.{All, filter}
use Rattle.std.proofs.lemmas.Bool.{cases_Bool, false≢true}
use Rattle.std.proofs.lemmas.List.{take_more}
use Rattle.std.proofs.lemmas.List.Elements.{All-nil, All-cons}
use Rattle.std.proofs.lemmas.List.Sums.{sum_by-cons}
use Rattle.ceal_base.specs.contracts.word.PlacePartialEq.TheImpl.{ghosts}
use Rattle.ceal_base.specs.declared.word.Place.{Place}
use Rattle.ceal_session.specs.Marks.{is_of_input, places_of}
use Rattle.ceal_session.specs.declared.handle.Handle.{Handle}

place-decides : (p q : Place) → Decides (ghosts.eq p q) (p ≡ q)
place-decides p q = search rules

places_push : (hs : List Handle) (h : Handle) → places_of (hs ++ h ∷ []) ≡ places_of hs ++ h.place ∷ []
places_push [] h = refl
places_push (g ∷ hs) h = ap (λ (l : List Place). g.place ∷ l) (places_push hs h)

-- one handle more
pub handle-told : (ps : List Place) (i : ℕ) (d : Place) (before more : List Handle) (h : Handle) → i < length ps → h.place ≡ get_or ps i d → places_of before ≡ take i ps
    → more ≡ before ++ h ∷ [] → places_of more ≡ take (i + 1) ps
handle-told ps i d before more h l is so added = ap places_of added ∙ (places_push before h ∙ (ap₂ (λ (xs : List Place) (p : Place). xs ++ p ∷ []) so is ∙ sym (take_more ps i d l)))

count-more : (p q : Place) (qs : List Place) → count_by (ghosts.eq p) (q ∷ qs) ≡ cond (ghosts.eq p q) 1 0 + count_by (ghosts.eq p) qs
count-more p q qs = sum_by-cons (λ (r : Place). cond (ghosts.eq p r) 1 0) q qs

-- a place of an input is there as often as it was
pub count-inputs : (p : Place) (ps : List Place) → is_of_input p ≡ true → count_by (ghosts.eq p) (filter is_of_input ps) ≡ count_by (ghosts.eq p) ps
count-inputs p [] h = refl
count-inputs p (q ∷ qs) h = elim (cases_Bool (is_of_input q)) [
  | inl one ↦
      let first : filter is_of_input (q ∷ qs) ≡ q ∷ filter is_of_input qs = rw one refl in
      ap (count_by (ghosts.eq p)) first
      ∙ (count-more p q (filter is_of_input qs) ∙ (ap (λ (n : ℕ). cond (ghosts.eq p q) 1 0 + n) (count-inputs p qs h) ∙ sym (count-more p q qs)))
  | inr not_one ↦ elim (cases_Bool (ghosts.eq p q)) [
    | inl same ↦ absurd (false≢true (sym not_one ∙ subst (λ (r : Place). is_of_input r ≡ true) ((place-decides p q).0 same) h))
    | inr other ↦
        let first : filter is_of_input (q ∷ qs) ≡ filter is_of_input qs = rw not_one refl in
        let none : cond {A = ℕ} (ghosts.eq p q) 1 0 ≡ 0 = rw other refl in
        let more = count-more p q qs in
        let rest = count-inputs p qs h in
        ap (count_by (ghosts.eq p)) first ∙ omega (arith, none, more, rest)
  ]
]

-- what is so of each place of an input that is there is so of all of them
pub all-inputs : (P : Place → Type 0) (all : List Place) → ((p : Place) → 1 ≤ count_by (ghosts.eq p) all → is_of_input p ≡ true → P p)
    → (ps : List Place) → ((p : Place) → count_by (ghosts.eq p) ps ≤ count_by (ghosts.eq p) all) → All P (filter is_of_input ps)
all-inputs P all so [] few = All-nil P
all-inputs P all so (q ∷ qs) few =
    let rest = all-inputs P all so qs (λ p. let more = count-more p q qs in let l = few p in omega (arith, more, l)) in
    elim (cases_Bool (is_of_input q)) [
      | inl one ↦
          let first : filter is_of_input (q ∷ qs) ≡ q ∷ filter is_of_input qs = rw one refl in
          let here : cond {A = ℕ} (ghosts.eq q q) 1 0 ≡ 1 = rw ((place-decides q q).1 refl) refl in
          let more = count-more q q qs in
          let l = few q in
          subst (λ (l : List Place). All P l) (sym first) (All-cons P q (filter is_of_input qs) (so q (omega (arith, here, more, l)) one) rest)
      | inr not_one ↦
          let first : filter is_of_input (q ∷ qs) ≡ filter is_of_input qs = rw not_one refl in
          subst (λ (l : List Place). All P l) (sym first) rest
    ]
