-- Which stamps there are among rising ones with one more or one less, and that rising stamps are determined by their
-- members.
use Rattle.std.proofs.Common.{◌≡◌, ◌==◌, ◌<◌, ◌∙◌, ℕ, suc, zero, inl, inr, true, false, if◌then◌else◌, List, [], ◌∷◌, refl, ap, sym, subst, arith}
use Rattle.std.proofs.lemmas.Bool.Decides.{eqb_tells}
use Rattle.std.proofs.lemmas.Bool.{eq-eqb}
use Rattle.std.specs.List.{insert}
use Rattle.ceal_order.specs.Stamps.{is_in, place, without}
use Rattle.ceal_order.specs.Rising.{IsBeforeAll, IsRising}

pub in_insert : (t s i : ℕ) (xs : List ℕ) → is_in t (insert xs i s) ≡ is_in t (s ∷ xs)
in_insert t s zero xs = refl
in_insert t s (suc i) [] = refl
in_insert t s (suc i) (x ∷ xs) = elim (eqb_tells x t) [
  | inl p ↦ elim (eqb_tells s t) [ inl q ↦ rw (p.0, q.0) refl | inr q ↦ rw (p.0, q.0) refl ]
  | inr p ↦ rw p.0 (in_insert t s i xs)
]

module _ (order : List ℕ) where
  not_behind : (s : ℕ) (xs : List ℕ) → IsBeforeAll order s xs → is_in s xs ≡ false
  not_behind s [] before = refl
  not_behind s (x ∷ xs) before = elim (eqb_tells x s) [
    | inl p ↦ absurd (let less : place s order < place s order = subst (λ (k : ℕ). place s order < place k order) p.1 before.0 in omega (arith, less))
    | inr p ↦ rw p.0 (not_behind s xs before.1)
  ]

  pub in_without : (t s : ℕ) (xs : List ℕ) → IsRising order xs → is_in t (without s xs) ≡ (if s == t then false else is_in t xs)
  in_without t s [] rising = elim (eqb_tells s t) [ inl q ↦ rw q.0 refl | inr q ↦ rw q.0 refl ]
  in_without t s (x ∷ xs) rising = elim (eqb_tells x s) [
    | inl p ↦ elim (eqb_tells s t) [
      | inl q ↦
          let none : is_in t xs ≡ false = subst (λ (k : ℕ). is_in k xs ≡ false) (p.1 ∙ q.1) (not_behind x xs rising.1) in
          rw (p.0, q.0) none
      | inr q ↦ elim (eqb_tells x t) [
        | inl r ↦ absurd (q.1 (sym p.1 ∙ r.1))
        | inr r ↦ rw (p.0, q.0, r.0) refl
      ]
    ]
    | inr p ↦ elim (eqb_tells x t) [
      | inl r ↦ elim (eqb_tells s t) [
        | inl q ↦ absurd (p.1 (r.1 ∙ sym q.1))
        | inr q ↦ rw (p.0, q.0, r.0) refl
      ]
      | inr r ↦ rw (p.0, r.0) (in_without t s xs rising.2)
    ]
  ]

  before_one : (s t : ℕ) (xs : List ℕ) → IsBeforeAll order s xs → is_in t xs ≡ true → place s order < place t order
  before_one s t [] before h = absurd (cc)
  before_one s t (x ∷ xs) before h = elim (eqb_tells x t) [
    | inl p ↦ subst (λ (k : ℕ). place s order < place k order) p.1 before.0
    | inr p ↦ before_one s t xs before.1 (rw p.0 at h)
  ]

  in_head : (s : ℕ) (xs : List ℕ) → is_in s (s ∷ xs) ≡ true
  in_head s xs = rw (eq-eqb s s refl) refl

  pub same_members : (xs ys : List ℕ) → IsRising order xs → IsRising order ys → ((s : ℕ) → is_in s xs ≡ is_in s ys) → xs ≡ ys
  same_members [] [] rx ry same = refl
  same_members [] (y ∷ ys) rx ry same = absurd (let no : false ≡ true = same y ∙ in_head y ys in cc)
  same_members (x ∷ xs) [] rx ry same = absurd (let no : true ≡ false = sym (in_head x xs) ∙ same x in cc)
  same_members (x ∷ xs) (y ∷ ys) rx ry same = elim (eqb_tells x y) [
    | inl p ↦ ap (λ (k : ℕ). k ∷ xs) p.1 ∙ ap (λ (l : List ℕ). y ∷ l) (same_members xs ys rx.2 ry.2 (rest p.1))
    | inr p ↦
        let x_in : is_in x ys ≡ true = elim (eqb_tells y x) [
          | inl q ↦ absurd (p.1 (sym q.1))
          | inr q ↦ (let e : is_in x (y ∷ ys) ≡ true = sym (same x) ∙ in_head x xs in rw q.0 at e)
        ] in
        let y_in : is_in y xs ≡ true = (let e : is_in y (x ∷ xs) ≡ true = same y ∙ in_head y ys in rw p.0 at e) in
        let one = before_one y x ys ry.1 x_in in
        let two = before_one x y xs rx.1 y_in in
        absurd (omega (arith, one, two))
  ]
    where
      rest : x ≡ y → (s : ℕ) → is_in s xs ≡ is_in s ys
      rest e s = elim (eqb_tells x s) [
        | inl q ↦
            let none_x : is_in s xs ≡ false = subst (λ (k : ℕ). is_in k xs ≡ false) q.1 (not_behind x xs rx.1) in
            let none_y : is_in s ys ≡ false = subst (λ (k : ℕ). is_in k ys ≡ false) (sym e ∙ q.1) (not_behind y ys ry.1) in
            none_x ∙ sym none_y
        | inr q ↦ (let h : is_in s (x ∷ xs) ≡ is_in s (y ∷ ys) = same s in rw (← e, q.0) at h)
      ]
