-- Stamps with their values.
use Rattle.std.proofs.Common.{◌≡◌, ◌<◌, ◌≤◌, ◌+◌, ℕ, suc, zero, inl, inr, true, false, Option, Some, None, List, [], ◌∷◌, length, take, refl, sym, ap, ◌∙◌, arith}
use Rattle.std.specs.Prelude.{unwrap_or, IsSome}
use Rattle.std.proofs.lemmas.Bool.Decides.{eqb_tells}
use Rattle.std.proofs.lemmas.Bool.{cases_lt, lt-ltb, le-ltb, eq-eqb}
use Rattle.std.specs.List.{insert, remove}
use Rattle.ceal_base.specs.declared.word.Word.{Word}
use Rattle.ceal_order.specs.Stamps.{is_in, place, without}
use Rattle.ceal_order.specs.Rising.{IsBeforeAll, IsRising, count_before, last_from, last_stamp}
use Rattle.ceal_mods.specs.Writes.{Write, AreTold, stamps_of, written, last_of, those_before, without_one}

pub stamps-written : (ss : List ℕ) (vs : List Word) → length ss ≡ length vs → stamps_of (written ss vs) ≡ ss
stamps-written [] vs same = refl
stamps-written (s ∷ ss) [] same = absurd (omega arith)
stamps-written (s ∷ ss) (v ∷ vs) same = ap (λ (l : List ℕ). s ∷ l) (stamps-written ss vs (omega arith))

-- ---- values

some-is : (a b : ℕ) → Some a ≡ Some b → a ≡ b
some-is a b e = ap (λ (o : Option ℕ). unwrap_or o a) e

-- the value after this number of writes, the base after none
abbrev pub value_after : Word → List Word → ℕ → Word
value_after base vs zero = base
value_after base [] (suc n) = base
value_after base (v ∷ vs) (suc n) = value_after v vs n

last-written : (base : Word) (ss : List ℕ) (vs : List Word) → length ss ≡ length vs → last_of base (written ss vs) ≡ value_after base vs (length vs)
last-written base [] [] same = refl
last-written base [] (v ∷ vs) same = absurd (omega arith)
last-written base (s ∷ ss) [] same = absurd (omega arith)
last-written base (s ∷ ss) (v ∷ vs) same = last-written v ss vs (omega arith)

-- what is told at the last of the first n stamps, or of one before them
module _ (tells : ℕ → Option Word) where
  told-from : (s : ℕ) (v : Word) (ss : List ℕ) (vs : List Word) (n : ℕ) → length ss ≡ length vs → tells s ≡ Some v → AreTold tells (written ss vs)
      → tells (last_from s (take n ss)) ≡ Some (value_after v vs n)
  told-from s v ss vs zero same here told = here
  told-from s v [] [] (suc n) same here told = here
  told-from s v [] (y ∷ ys) (suc n) same here told = absurd (omega arith)
  told-from s v (x ∷ xs) [] (suc n) same here told = absurd (omega arith)
  told-from s v (x ∷ xs) (y ∷ ys) (suc n) same here told = told-from x y xs ys n (omega arith) told.0 told.1

  told-after : (base : Word) (ss : List ℕ) (vs : List Word) (n t : ℕ) → length ss ≡ length vs → AreTold tells (written ss vs) → last_stamp (take n ss) ≡ Some t
      → tells t ≡ Some (value_after base vs n)
  told-after base ss vs zero t same told last = absurd (cc)
  told-after base [] vs (suc n) t same told last = absurd (cc)
  told-after base (x ∷ xs) [] (suc n) t same told last = absurd (omega arith)
  told-after base (x ∷ xs) (y ∷ ys) (suc n) t same told last =
      let is : last_from x (take n xs) ≡ t = some-is (last_from x (take n xs)) t last in
      rw (← is) (told-from x y xs ys n (omega arith) told.0 told.1)

take-all : (ss : List ℕ) → take (length ss) ss ≡ ss
take-all [] = refl
take-all (s ∷ ss) = ap (λ (l : List ℕ). s ∷ l) (take-all ss)

-- what is told is a word
pub told-is : (o : Option Word) (v w : Word) → o ≡ Some v → o ≡ Some w → v ≡ w
told-is None v w a b = absurd (cc)
told-is (Some u) v w a b = ap (λ (o : Option Word). unwrap_or o v) (sym a ∙ b)

pub some-told : (o : Option Word) (v : Word) → o ≡ Some v → IsSome o
some-told None v e = absurd (cc)
some-told (Some u) v e = refl

module _ (order : List ℕ) where
  none_before : (s x : ℕ) (ss : List ℕ) (vs : List Word) → place s order ≤ place x order → IsBeforeAll order x ss → those_before order s (written ss vs) ≡ []
  none_before s x [] vs le before = refl
  none_before s x (y ∷ ys) [] le before = refl
  none_before s x (y ∷ ys) (v ∷ vs) le before =
      let later : place s order ≤ place y order = (let less = before.0 in omega (arith, less)) in
      rw (le-ltb (place y order) (place s order) later) (none_before s x ys vs le before.1)

  none_counted : (s x : ℕ) (ss : List ℕ) → place s order ≤ place x order → IsBeforeAll order x ss → count_before order s ss ≡ 0
  none_counted s x [] le before = refl
  none_counted s x (y ∷ ys) le before =
      let later : place s order ≤ place y order = (let less = before.0 in omega (arith, less)) in
      rw (le-ltb (place y order) (place s order) later) (none_counted s x ys le before.1)

  pub last-before : (base : Word) (s : ℕ) (ss : List ℕ) (vs : List Word) → length ss ≡ length vs → IsRising order ss
      → last_of base (those_before order s (written ss vs)) ≡ value_after base vs (count_before order s ss)
  last-before base s [] vs same rising = refl
  last-before base s (x ∷ xs) [] same rising = absurd (omega arith)
  last-before base s (x ∷ xs) (v ∷ vs) same rising = elim (cases_lt (place x order) (place s order)) [
    | inl less ↦ rw (lt-ltb (place x order) (place s order) less) (last-before v s xs vs (omega arith) rising.2)
    | inr le ↦ rw (le-ltb (place x order) (place s order) le, none_before s x xs vs le rising.1, none_counted s x xs le rising.1) refl
  ]

-- ---- what is told

module _ (tells : ℕ → Option Word) (base : Word) (ss : List ℕ) (vs : List Word) (same : length ss ≡ length vs) (told : AreTold tells (written ss vs)) (t : ℕ) where
  pub last-told : last_stamp ss ≡ Some t → tells t ≡ Some (last_of base (written ss vs))
  last-told last = told-after tells base ss vs (length ss) t same told (ap last_stamp (take-all ss) ∙ last)
      ∙ ap Some (ap (value_after base vs) same ∙ sym (last-written base ss vs same))

  pub before-told : (order : List ℕ) (s : ℕ) → IsRising order ss → last_stamp (take (count_before order s ss) ss) ≡ Some t
      → tells t ≡ Some (last_of base (those_before order s (written ss vs)))
  before-told order s rising last = told-after tells base ss vs (count_before order s ss) t same told last ∙ ap Some (sym (last-before order base s ss vs same rising))

-- ---- one more

pub written-insert : (ss : List ℕ) (vs : List Word) (i s : ℕ) (v : Word) → length ss ≡ length vs
    → written (insert ss i s) (insert vs i v) ≡ insert (written ss vs) i (record { stamp = s; value = v })
written-insert ss vs zero s v same = refl
written-insert [] [] (suc i) s v same = refl
written-insert [] (y ∷ ys) (suc i) s v same = absurd (omega arith)
written-insert (x ∷ xs) [] (suc i) s v same = absurd (omega arith)
written-insert (x ∷ xs) (y ∷ ys) (suc i) s v same =
    ap (λ (l : List Write). record { stamp = x; value = y } ∷ l) (written-insert xs ys i s v (omega arith))

pub as_many-insert : {A : Type 0} (ss : List ℕ) (vs : List A) (i s : ℕ) (v : A) → length ss ≡ length vs → length (insert ss i s) ≡ length (insert vs i v)
as_many-insert ss vs zero s v same = ap suc same
as_many-insert [] [] (suc i) s v same = refl
as_many-insert [] (y ∷ ys) (suc i) s v same = absurd (omega arith)
as_many-insert (x ∷ xs) [] (suc i) s v same = absurd (omega arith)
as_many-insert (x ∷ xs) (y ∷ ys) (suc i) s v same = ap suc (as_many-insert xs ys i s v (omega arith))

-- ---- one less

pub written-without : (s : ℕ) (ss : List ℕ) (vs : List Word) → length ss ≡ length vs → is_in s ss ≡ true
    → written (without s ss) (remove vs (place s ss)) ≡ without_one s (written ss vs)
written-without s [] vs same found = absurd (cc)
written-without s (x ∷ xs) [] same found = absurd (omega arith)
written-without s (x ∷ xs) (v ∷ vs) same found = elim (eqb_tells x s) [
  | inl p ↦ rw p.0 refl
  | inr p ↦
      let next : 1 + place s xs ≡ suc (place s xs) = omega arith in
      rw (p.0, next) (ap (λ (l : List Write). record { stamp = x; value = v } ∷ l) (written-without s xs vs (omega arith) (rw p.0 at found)))
]

pub as_many-without : {A : Type 0} (s : ℕ) (ss : List ℕ) (vs : List A) → length ss ≡ length vs → is_in s ss ≡ true → length (without s ss) ≡ length (remove vs (place s ss))
as_many-without s [] vs same found = absurd (cc)
as_many-without s (x ∷ xs) [] same found = absurd (omega arith)
as_many-without s (x ∷ xs) (v ∷ vs) same found = elim (eqb_tells x s) [
  | inl p ↦ rw p.0 (omega arith)
  | inr p ↦
      let next : 1 + place s xs ≡ suc (place s xs) = omega arith in
      rw (p.0, next) (ap suc (as_many-without s xs vs (omega arith) (rw p.0 at found)))
]
