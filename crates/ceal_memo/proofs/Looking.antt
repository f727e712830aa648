-- The stamps under a hash, and those of the list with a number.
use Rattle.std.proofs.Common.{◌≡◌, ◌≢◌, ℕ, suc, zero, Bool, true, false, inl, inr, ◌⊎◌, List, [], ◌∷◌, Option, None, Some, refl, sym, ap, ◌∙◌, subst, slice_get, arith}
use Rattle.std.proofs.lemmas.Bool.{cases_Bool, false≢true}
use Rattle.std.proofs.lemmas.Bool.Decides.{eqb_tells}
use Rattle.std.specs.Prelude.{unwrap_or, ◌==◌, ◌&&◌}
use Rattle.std.specs.Map.{keys_of}
use Rattle.ceal_order.specs.Stamps.{is_in, Distinct, without}
use Rattle.ceal_order.specs.Rising.{IsRising}
use Rattle.ceal_memo.specs.Lists.{has_stamps, stamps_at}
use Rattle.ceal_memo.specs.Numbers.{list_at, hashes_in, OneList, IsWithout}
use Rattle.ceal_memo.proofs.Numbers.{value_of, none_of}

-- what cannot be true is false
pub out : (b : Bool) → (b ≡ true → ⊥) → b ≡ false
out b impossible = elim (cases_Bool b) [ inl holds ↦ absurd (impossible holds) | inr fails ↦ fails ]

pub empty_or : (l : List ℕ) → (l ≡ []) ⊎ (l ≢ [])
empty_or [] = inl refl
empty_or (s ∷ ss) = inr (λ same. cc)

of_some : (a b : ℕ × List ℕ) → Some a ≡ Some b → a ≡ b
of_some a b same = cc

pub first_is : (k m : ℕ) (a b : List ℕ) → ◌≡◌ {A = Option (ℕ × List ℕ)} (Some (k, a)) (Some (m, b)) → k ≡ m
first_is k m a b same = ap (λ (e : ℕ × List ℕ). e.0) (of_some (k, a) (m, b) same)

pub second_is : (k m : ℕ) (a b : List ℕ) → ◌≡◌ {A = Option (ℕ × List ℕ)} (Some (k, a)) (Some (m, b)) → a ≡ b
second_is k m a b same = ap (λ (e : ℕ × List ℕ). e.1) (of_some (k, a) (m, b) same)

-- ---- a number

pub list_is : (es : List (ℕ × List ℕ)) (n k : ℕ) (l : List ℕ) → slice_get es n ≡ Some (k, l) → list_at es n ≡ l
list_is es n k l at = ap (λ (p : Option (List ℕ)). unwrap_or p []) (value_of es n k l at)

-- what is true of no stamps, and of each list, is true of the list with any number
each : (es : List (ℕ × List ℕ)) (P : List ℕ → Type 0) → P [] → ((n k : ℕ) (l : List ℕ) → slice_get es n ≡ Some (k, l) → P l) → (n : ℕ) → P (list_at es n)
each es P none some n = by (slice_get es n) refl
  where
    by : (o : Option (ℕ × List ℕ)) → slice_get es n ≡ o → P (list_at es n)
    by None p = subst P (sym (none_of es n p)) none
    by (Some e) p = subst P (sym (list_is es n e.0 e.1 p)) (some n e.0 e.1 p)

-- ---- a hash

-- whether a list is the one of a hash
takes : (e : ℕ × List ℕ) (k : ℕ) → (((has_stamps e.1 && k == e.0) ≡ true) × (k ≡ e.0) × (e.1 ≢ [])) ⊎ (((has_stamps e.1 && k == e.0) ≡ false) × (k ≡ e.0 → e.1 ≡ []))
takes e k = by e.1
  where
    by : (l : List ℕ) → (((has_stamps l && k == e.0) ≡ true) × (k ≡ e.0) × (l ≢ [])) ⊎ (((has_stamps l && k == e.0) ≡ false) × (k ≡ e.0 → l ≡ []))
    by [] = inr (refl, λ same. refl)
    by (s ∷ ss) = elim (eqb_tells k e.0) [
      | inl p ↦ inl (p.0, p.1, λ same. cc)
      | inr p ↦ inr (p.0, λ same. absurd (p.1 same))
    ]

one_left : (e : ℕ × List ℕ) (es : List (ℕ × List ℕ)) → OneList (e ∷ es) → OneList es
one_left e es unique m n k a b at_m at_n some_a some_b = let same = unique (suc m) (suc n) k a b at_m at_n some_a some_b in omega arith

-- where a hash has stamps it has a list
pub found : (es : List (ℕ × List ℕ)) (k : ℕ) → stamps_at es k ≢ [] → (n : ℕ) × (slice_get es n ≡ Some (k, stamps_at es k))
found [] k some = absurd (some refl)
found (e ∷ es) k some = elim (takes e k) [
  | inl p ↦ rw p.0 (0, λ i. Some (sym p.1 i, e.1))
  | inr p ↦ let r = found es k (rw p.0 at some) in rw p.0 (suc r.0, r.1)
]

-- and a list with stamps is found
pub looked : (es : List (ℕ × List ℕ)) → OneList es → (n k : ℕ) (l : List ℕ) → slice_get es n ≡ Some (k, l) → l ≢ [] → stamps_at es k ≡ l
looked [] unique n k l at some = cc
looked (e ∷ es) unique zero k l at some = elim (takes e k) [
  | inl p ↦ rw p.0 (second_is e.0 k e.1 l at)
  | inr p ↦ absurd (some (sym (second_is e.0 k e.1 l at) ∙ p.1 (sym (first_is e.0 k e.1 l at))))
]
looked (e ∷ es) unique (suc n) k l at some = elim (takes e k) [
  | inl p ↦ let differ : 0 ≡ suc n = unique 0 (suc n) k e.1 l (λ i. Some (sym p.1 i, e.1)) at p.2 some in absurd (omega arith)
  | inr p ↦ rw p.0 (looked es (one_left e es unique) n k l at some)
]

-- a hash of which all lists are empty has no stamps
pub nothing : (es : List (ℕ × List ℕ)) (k : ℕ) → ((n : ℕ) (l : List ℕ) → slice_get es n ≡ Some (k, l) → l ≡ []) → stamps_at es k ≡ []
nothing es k none = elim (empty_or (stamps_at es k)) [
  | inl empty ↦ empty
  | inr some ↦ let at = found es k some in absurd (some (none at.0 (stamps_at es k) at.1))
]

-- two tables with the same stamps under a hash
pub same_stamps : (old new : List (ℕ × List ℕ)) → OneList new → (k : ℕ)
    → ((n : ℕ) (l : List ℕ) → l ≢ [] → slice_get old n ≡ Some (k, l) → slice_get new n ≡ Some (k, l))
    → ((n : ℕ) (l : List ℕ) → l ≢ [] → slice_get new n ≡ Some (k, l) → slice_get old n ≡ Some (k, l)) → OneList old → stamps_at new k ≡ stamps_at old k
same_stamps old new unique k more less before = elim (empty_or (stamps_at old k)) [
  | inl empty ↦ nothing new k (λ n l at. elim (empty_or l) [
    | inl none ↦ none
    | inr some ↦ absurd (some (sym (looked old before n k l (less n l some at) some) ∙ empty))
  ]) ∙ sym empty
  | inr some ↦ let at = found old k some in looked new unique at.0 k (stamps_at old k) (more at.0 (stamps_at old k) some at.1) some
]

pub in_list : (es : List (ℕ × List ℕ)) (k s : ℕ) → is_in s (stamps_at es k) ≡ true → (n : ℕ) × (slice_get es n ≡ Some (k, stamps_at es k))
in_list es k s there = found es k (λ empty. false≢true (subst (λ (l : List ℕ). is_in s l ≡ true) empty there))

module _ (es : List (ℕ × List ℕ)) (unique : OneList es) where
  -- a stamp that no hash has is in no list
  pub nowhere : (s : ℕ) → ((k : ℕ) → is_in s (stamps_at es k) ≡ false) → (n : ℕ) → is_in s (list_at es n) ≡ false
  nowhere s none = each es (λ l. is_in s l ≡ false) refl (λ n k l at. elim (empty_or l) [
    | inl empty ↦ subst (λ (m : List ℕ). is_in s m ≡ false) (sym empty) refl
    | inr some ↦ subst (λ (m : List ℕ). is_in s m ≡ false) (looked es unique n k l at some) (none k)
  ])

  -- where the stamps of each hash rise, so do those of each list
  pub rising_list : (order : List ℕ) → ((k : ℕ) → IsRising order (stamps_at es k)) → (n : ℕ) → IsRising order (list_at es n)
  rising_list order rise = each es (IsRising order) tt (λ n k l at. elim (empty_or l) [
    | inl empty ↦ subst (IsRising order) (sym empty) tt
    | inr some ↦ subst (IsRising order) (looked es unique n k l at some) (rise k)
  ])

pub all_once : (es : List (ℕ × List ℕ)) → ((n : ℕ) → Distinct (list_at es n)) → (k : ℕ) → Distinct (stamps_at es k)
all_once es once k = elim (empty_or (stamps_at es k)) [
  | inl empty ↦ subst Distinct (sym empty) tt
  | inr some ↦ let at = found es k some in subst Distinct (list_is es at.0 k (stamps_at es k) at.1) (once at.0)
]

-- ---- all lists at once

heads : (x y : ℕ) (xs ys : List ℕ) → x ∷ xs ≡ y ∷ ys → x ≡ y
heads x y xs ys same = cc

tails : (x y : ℕ) (xs ys : List ℕ) → x ∷ xs ≡ y ∷ ys → xs ≡ ys
tails x y xs ys same = cc

-- what a list was before
before : (s : ℕ) (old new : List (ℕ × List ℕ)) → IsWithout s old new → (n k : ℕ) (l : List ℕ) → slice_get new n ≡ Some (k, l)
    → (m : List ℕ) × (slice_get old n ≡ Some (k, m)) × (l ≡ without s m)
before s old [] less n k l at = cc
before s [] (f ∷ new) less n k l at = let differ = less.hashes in cc
before s (e ∷ old) (f ∷ new) less zero k l at = (
  e.1,
  let hash : e.0 ≡ k = sym (heads f.0 e.0 (keys_of new) (keys_of old) less.hashes) ∙ first_is f.0 k f.1 l at in (λ i. Some (hash i, e.1)),
  sym (second_is f.0 k f.1 l at) ∙ less.lists 0,
)
before s (e ∷ old) (f ∷ new) less (suc n) k l at =
    before s old new (record { hashes = tails f.0 e.0 (keys_of new) (keys_of old) less.hashes; lists = λ m. less.lists (suc m) }) n k l at

-- what it is now
after : (s : ℕ) (old new : List (ℕ × List ℕ)) → IsWithout s old new → (n k : ℕ) (l : List ℕ) → slice_get old n ≡ Some (k, l) → slice_get new n ≡ Some (k, without s l)
after s [] new less n k l at = cc
after s (e ∷ old) [] less n k l at = let differ = less.hashes in cc
after s (e ∷ old) (f ∷ new) less zero k l at =
    let hash : f.0 ≡ k = heads f.0 e.0 (keys_of new) (keys_of old) less.hashes ∙ first_is e.0 k e.1 l at in
    let list : f.1 ≡ without s l = less.lists 0 ∙ ap (without s) (second_is e.0 k e.1 l at) in
    λ i. Some (hash i, list i)
after s (e ∷ old) (f ∷ new) less (suc n) k l at =
    after s old new (record { hashes = tails f.0 e.0 (keys_of new) (keys_of old) less.hashes; lists = λ m. less.lists (suc m) }) n k l at

module _ (s : ℕ) (old new : List (ℕ × List ℕ)) (less : IsWithout s old new) (unique : OneList old) where
  -- a list that has stamps had some
  had : (n k : ℕ) (l : List ℕ) → slice_get new n ≡ Some (k, l) → l ≢ [] → (m : List ℕ) × (slice_get old n ≡ Some (k, m)) × (m ≢ [])
  had n k l at some =
      let was = before s old new less n k l at in
      (was.0, was.1, λ empty. some (was.2 ∙ ap (without s) empty))

  pub one_less : OneList new
  one_less m n k a b at_m at_n some_a some_b =
      let x = had m k a at_m some_a in
      let y = had n k b at_n some_b in
      unique m n k x.0 y.0 x.1 y.1 x.2 y.2

  pub all_without : (k : ℕ) → stamps_at new k ≡ without s (stamps_at old k)
  all_without k = elim (empty_or (stamps_at old k)) [
    | inl empty ↦ nothing new k (λ n l at. elim (empty_or l) [
      | inl none ↦ none
      | inr some ↦ let was = had n k l at some in absurd (was.2 (sym (looked old unique n k was.0 was.1 was.2) ∙ empty))
    ]) ∙ sym (ap (without s) empty)
    | inr some ↦
        let at = found old k some in
        let now = after s old new less at.0 k (stamps_at old k) at.1 in
        elim (empty_or (without s (stamps_at old k))) [
          | inl gone ↦ nothing new k (λ n l at_n. elim (empty_or l) [
            | inl none ↦ none
            | inr more ↦
                let was = had n k l at_n more in
                let same = unique n at.0 k was.0 (stamps_at old k) was.1 at.1 was.2 some in
                absurd (more (second_is k k l (without s (stamps_at old k)) (sym at_n ∙ subst (λ (i : ℕ). slice_get new i ≡ Some (k, without s (stamps_at old k))) (sym same) now) ∙ gone))
          ]) ∙ sym gone
          | inr left ↦ looked new one_less at.0 k (without s (stamps_at old k)) now left
        ]
  ]

-- tables with the same hashes and lists are the same
pub same_entries : (old new : List (ℕ × List ℕ)) → hashes_in new ≡ hashes_in old → ((n : ℕ) → list_at new n ≡ list_at old n) → new ≡ old
same_entries [] [] hashes lists = refl
same_entries [] (f ∷ new) hashes lists = cc
same_entries (e ∷ old) [] hashes lists = cc
same_entries (e ∷ old) (f ∷ new) hashes lists =
    let rest = same_entries old new (tails f.0 e.0 (keys_of new) (keys_of old) hashes) (λ n. lists (suc n)) in
    λ i. (heads f.0 e.0 (keys_of new) (keys_of old) hashes i, lists 0 i) ∷ rest i
