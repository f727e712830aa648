-- Looking for a place among rising stamps.
use Rattle.std.proofs.Common.{◌≡◌, ◌≢◌, ◌↔◌, Bool, ◌<◌, ◌≤◌, ◌+◌, ℕ, suc, zero, inl, inr, true, false, List, [], ◌∷◌, ◌++◌, length, get_or, refl, sym, ap, subst, ◌∙◌, arith}
use Rattle.std.proofs.lemmas.Bool.Decides.{eqb_tells}
use Rattle.std.proofs.lemmas.Bool.{cases_lt, lt-ltb, le-ltb, iff_false}
use Rattle.ceal_order.specs.declared.stamp.Stamp.{Stamp}
use Rattle.ceal_order.specs.Stamps.{is_in, place}
use Rattle.ceal_order.specs.Rising.{numbers, IsBeforeAll, IsRising, count_before, IsFirstAfter, NoneAfter, IsParted}
use Rattle.ceal_order.proofs.RisingLemmas.{in_head, in_tail, in_order}

-- what an answer that one is not before another says
pub not_less : (b : Bool) (m n : ℕ) → ((b ≡ true) ↔ (m < n)) → b ≡ false → n ≤ m
not_less b m n tells not_so = elim (cases_lt m n) [ inl less ↦ absurd (iff_false tells not_so less) | inr le ↦ le ]

-- ---- the numbers of stamps

pub length-numbers : (ss : List Stamp) → length (numbers ss) ≡ length ss
length-numbers [] = refl
length-numbers (s ∷ ss) = ap suc (length-numbers ss)

pub numbers-at : (ss : List Stamp) (i : ℕ) (d : Stamp) → i < length ss → get_or (numbers ss) i 0 ≡ (get_or ss i d).0
numbers-at [] i d within = absurd (omega arith)
numbers-at (s ∷ ss) zero d within = refl
numbers-at (s ∷ ss) (suc i) d within = numbers-at ss i d (omega arith)

-- a stamp that is at no index in question
pub blank : Stamp
blank = record { 0 = 0 }

-- ---- indices

pub in_at : (xs : List ℕ) (i : ℕ) → i < length xs → is_in (get_or xs i 0) xs ≡ true
in_at [] i within = absurd (omega arith)
in_at (x ∷ xs) zero within = in_head x xs
in_at (x ∷ xs) (suc i) within = in_tail (get_or xs i 0) x xs (in_at xs i (omega arith))

-- a member is at an index
pub record IsAt (t : ℕ) (xs : List ℕ) : Type 0 where
  pub index : ℕ
  pub within : index < length xs
  pub is : get_or xs index 0 ≡ t

pub index_of_member : (t : ℕ) (xs : List ℕ) → is_in t xs ≡ true → IsAt t xs
index_of_member t [] found = absurd (cc)
index_of_member t (x ∷ xs) found = elim (eqb_tells x t) [
  | inl p ↦ record { index = 0; within = omega arith; is = p.1 }
  | inr p ↦
      let rest = index_of_member t xs (rw p.0 at found) in
      record { index = suc rest.index; within = (let less = rest.within in omega (arith, less)); is = rest.is }
]

-- two stamps at one place are one
pub one_place : (a b : ℕ) (xs : List ℕ) → is_in a xs ≡ true → is_in b xs ≡ true → place a xs ≡ place b xs → a ≡ b
one_place a b [] found also same = absurd (cc)
one_place a b (x ∷ xs) found also same = elim (eqb_tells x a) [
  | inl p ↦ elim (eqb_tells x b) [
    | inl q ↦ sym p.1 ∙ q.1
    | inr q ↦ let no : 0 ≡ 1 + place b xs = rw (p.0, q.0) at same in absurd (omega arith)
  ]
  | inr p ↦ elim (eqb_tells x b) [
    | inl q ↦ let no : 1 + place a xs ≡ 0 = rw (p.0, q.0) at same in absurd (omega arith)
    | inr q ↦
        let rest : 1 + place a xs ≡ 1 + place b xs = rw (p.0, q.0) at same in
        one_place a b xs (rw p.0 at found) (rw q.0 at also) (omega arith)
  ]
]

module _ (order : List ℕ) where
  pub order_at : (xs : List ℕ) (i : ℕ) → IsRising order xs → i < length xs → is_in (get_or xs i 0) order ≡ true
  order_at xs i rising within = in_order (get_or xs i 0) xs order rising (in_at xs i within)

  before_at : (s : ℕ) (xs : List ℕ) (i : ℕ) → IsBeforeAll order s xs → i < length xs → place s order < place (get_or xs i 0) order
  before_at s [] i before within = absurd (omega arith)
  before_at s (x ∷ xs) zero before within = before.0
  before_at s (x ∷ xs) (suc i) before within = before_at s xs i before.1 (omega arith)

  pub rising_at : (xs : List ℕ) (i j : ℕ) → IsRising order xs → i < j → j < length xs → place (get_or xs i 0) order < place (get_or xs j 0) order
  rising_at [] i j rising less within = absurd (omega arith)
  rising_at (x ∷ xs) i zero rising less within = absurd (omega arith)
  rising_at (x ∷ xs) zero (suc j) rising less within = before_at x xs j rising.1 (omega arith)
  rising_at (x ∷ xs) (suc i) (suc j) rising less within = rising_at xs i j rising.2 (omega arith) (omega arith)

  -- ---- the number of stamps before one

  pub count_le : (s : ℕ) (xs : List ℕ) → count_before order s xs ≤ length xs
  count_le s [] = omega arith
  count_le s (x ∷ xs) = elim (cases_lt (place x order) (place s order)) [
    | inl less ↦ rw (lt-ltb (place x order) (place s order) less) (let rest = count_le s xs in omega (arith, rest))
    | inr le ↦ rw (le-ltb (place x order) (place s order) le) (let rest = count_le s xs in omega (arith, rest))
  ]

  pub count_none : (s x : ℕ) (xs : List ℕ) → place s order ≤ place x order → IsBeforeAll order x xs → count_before order s xs ≡ 0
  count_none s x [] le before = refl
  count_none s x (y ∷ ys) le before =
      let later : place s order ≤ place y order = (let less = before.0 in omega (arith, less)) in
      rw (le-ltb (place y order) (place s order) later) (count_none s x ys le before.1)

  pub count_front : (s : ℕ) (xs : List ℕ) (i : ℕ) → IsRising order xs → i < length xs → place (get_or xs i 0) order < place s order → suc i ≤ count_before order s xs
  count_front s [] i rising within less = absurd (omega arith)
  count_front s (x ∷ xs) zero rising within less = rw (lt-ltb (place x order) (place s order) less) (omega arith)
  count_front s (x ∷ xs) (suc i) rising within less =
      let first : place x order < place (get_or xs i 0) order = before_at x xs i rising.1 (omega arith) in
      let before : place x order < place s order = omega arith in
      rw (lt-ltb (place x order) (place s order) before) (let rest = count_front s xs i rising.2 (omega arith) less in omega (arith, rest))

  pub count_back : (s : ℕ) (xs : List ℕ) (i : ℕ) → IsRising order xs → i < length xs → place s order ≤ place (get_or xs i 0) order → count_before order s xs ≤ i
  count_back s [] i rising within le = absurd (omega arith)
  count_back s (x ∷ xs) zero rising within le = rw (le-ltb (place x order) (place s order) le, count_none s x xs le rising.1) (omega arith)
  count_back s (x ∷ xs) (suc i) rising within le =
      let rest : count_before order s xs ≤ i = count_back s xs i rising.2 (omega arith) le in
      elim (cases_lt (place x order) (place s order)) [
        | inl less ↦ rw (lt-ltb (place x order) (place s order) less) (omega arith)
        | inr more ↦ rw (le-ltb (place x order) (place s order) more) (omega arith)
      ]

  -- ---- the nearest one after a stamp

  pub next_at : (s : ℕ) (xs : List ℕ) (n : ℕ) → IsRising order xs → n < length xs → place s order < place (get_or xs n 0) order
      → ((i : ℕ) → i < n → place (get_or xs i 0) order ≤ place s order) → IsFirstAfter order xs s (get_or xs n 0)
  next_at s xs n rising within behind front = record {
    there = in_at xs n within;
    behind = behind;
    nearest = λ t found later.
        let at = index_of_member t xs found in
        let later' : place s order < place (get_or xs at.index 0) order = subst (λ (k : ℕ). place s order < place k order) (sym at.is) later in
        let le : place (get_or xs n 0) order ≤ place (get_or xs at.index 0) order = elim (cases_lt at.index n) [
          | inl less ↦ absurd (let no = front at.index less in omega (arith, no, later'))
          | inr more ↦ elim (cases_lt n at.index) [
            | inl less ↦ (let up = rising_at xs n at.index rising less at.within in omega (arith, up))
            | inr same ↦ (let e : at.index ≡ n = omega (arith, more, same) in subst (λ (k : ℕ). place (get_or xs n 0) order ≤ place (get_or xs k 0) order) (sym e) (omega arith))
          ]
        ] in
        subst (λ (k : ℕ). place (get_or xs n 0) order ≤ place k order) at.is le;
  }

  pub none_at : (s : ℕ) (xs : List ℕ) → ((i : ℕ) → i < length xs → place (get_or xs i 0) order ≤ place s order) → NoneAfter order xs s
  none_at s xs all t found =
      let at = index_of_member t xs found in
      subst (λ (k : ℕ). place k order ≤ place s order) at.is (all at.index at.within)

  -- all at indices below the count are before
  pub front_of_count : (s : ℕ) (xs : List ℕ) (i : ℕ) → IsRising order xs → i < length xs → i < count_before order s xs → place (get_or xs i 0) order < place s order
  front_of_count s xs i rising within less = elim (cases_lt (place (get_or xs i 0) order) (place s order)) [
    | inl before ↦ before
    | inr le ↦ absurd (let no = count_back s xs i rising within le in omega (arith, no, less))
  ]

  -- the one at the count does not
  pub back_of_count : (s : ℕ) (xs : List ℕ) → IsRising order xs → count_before order s xs < length xs → place s order ≤ place (get_or xs (count_before order s xs) 0) order
  back_of_count s xs rising within = elim (cases_lt (place (get_or xs (count_before order s xs) 0) order) (place s order)) [
    | inl before ↦ absurd (let no = count_front s xs (count_before order s xs) rising within before in omega (arith, no))
    | inr le ↦ le
  ]

  -- ---- the count of parts

  pub count_append : (s : ℕ) (xs ys : List ℕ) → count_before order s (xs ++ ys) ≡ count_before order s xs + count_before order s ys
  count_append s [] ys = omega arith
  count_append s (x ∷ xs) ys = elim (cases_lt (place x order) (place s order)) [
    | inl less ↦ rw (lt-ltb (place x order) (place s order) less) (let rest = count_append s xs ys in omega (arith, rest))
    | inr le ↦ rw (le-ltb (place x order) (place s order) le) (count_append s xs ys)
  ]

  pub rising_front : (xs ys : List ℕ) → IsRising order (xs ++ ys) → IsRising order xs
  rising_front [] ys rising = tt
  rising_front (x ∷ xs) ys rising = (rising.0, before_front x xs ys rising.1, rising_front xs ys rising.2)
    where
      before_front : (s : ℕ) (zs ys : List ℕ) → IsBeforeAll order s (zs ++ ys) → IsBeforeAll order s zs
      before_front s [] ys before = tt
      before_front s (z ∷ zs) ys before = (before.0, before_front s zs ys before.1)

  pub rising_back : (xs ys : List ℕ) → IsRising order (xs ++ ys) → IsRising order ys
  rising_back [] ys rising = rising
  rising_back (x ∷ xs) ys rising = rising_back xs ys rising.2

  -- where one of those after is before a stamp, all of those in front are
  pub count_all : (s : ℕ) (xs ys : List ℕ) → IsRising order (xs ++ ys) → 0 < count_before order s ys → count_before order s xs ≡ length xs
  count_all s [] ys rising some = refl
  count_all s (x ∷ xs) ys rising some = elim (cases_lt (place x order) (place s order)) [
    | inl less ↦ rw (lt-ltb (place x order) (place s order) less) (let rest = count_all s xs ys rising.2 some in omega (arith, rest))
    | inr le ↦ absurd (let none = count_none s x (xs ++ ys) le rising.1 in omega (arith, none, some, count_append s xs ys))
  ]

  -- where one of those in front does not, none of those after does
  pub count_no_more : (s : ℕ) (xs ys : List ℕ) → IsRising order (xs ++ ys) → count_before order s xs < length xs → count_before order s ys ≡ 0
  count_no_more s xs ys rising less = elim (cases_lt 0 (count_before order s ys)) [
    | inl some ↦ absurd (let all = count_all s xs ys rising some in omega (arith, all, less))
    | inr none ↦ omega (arith, none)
  ]

  -- a stamp that is not the one at the count is none of these
  pub count_past : (s : ℕ) (xs : List ℕ) → IsRising order xs → (count_before order s xs < length xs → get_or xs (count_before order s xs) 0 ≢ s) → (k : ℕ) → k < length xs → get_or xs k 0 ≢ s
  count_past s xs rising other k within same =
      let here : place (get_or xs k 0) order ≡ place s order = ap (λ (i : ℕ). place i order) same in
      elim (cases_lt k (count_before order s xs)) [
        | inl less ↦ (let up = front_of_count s xs k rising within less in omega (arith, up, here))
        | inr le ↦ elim (cases_lt (count_before order s xs) k) [
          | inl less ↦
              let up = rising_at xs (count_before order s xs) k rising less within in
              let back = back_of_count s xs rising (omega arith) in
              omega (arith, up, back, here)
          | inr ge ↦ (let e : k ≡ count_before order s xs = omega arith in other (omega arith) (subst (λ (i : ℕ). get_or xs i 0 ≡ s) e same))
        ]
      ]

  pub count_here : (s : ℕ) (xs : List ℕ) (n : ℕ) → IsRising order xs → n ≡ count_before order s xs → get_or xs n 0 ≢ s → (k : ℕ) → k < length xs → get_or xs k 0 ≢ s
  count_here s xs n rising is other = count_past s xs rising (λ less same. other (subst (λ (i : ℕ). get_or xs i 0 ≡ s) (sym is) same))

  -- ---- the same of stamps, each of which was got from an index

  pub order_of : (ss : List Stamp) (i : ℕ) (t : Stamp) → IsRising order (numbers ss) → i < length ss → ((d : Stamp) → get_or ss i d ≡ t) → is_in t.0 order ≡ true
  order_of ss i t rising within got =
      rw (← got blank, ← numbers-at ss i blank within) (order_at (numbers ss) i rising (omega (arith, length-numbers ss)))

  pub front_of : (s : ℕ) (ss : List Stamp) (i : ℕ) (t : Stamp) → IsRising order (numbers ss) → i < length ss → ((d : Stamp) → get_or ss i d ≡ t)
      → place t.0 order < place s order → suc i ≤ count_before order s (numbers ss)
  front_of s ss i t rising within got less =
      count_front s (numbers ss) i rising (omega (arith, length-numbers ss)) (rw (numbers-at ss i blank within, got blank) less)

  pub back_of : (s : ℕ) (ss : List Stamp) (i : ℕ) (t : Stamp) → IsRising order (numbers ss) → i < length ss → ((d : Stamp) → get_or ss i d ≡ t)
      → place s order ≤ place t.0 order → count_before order s (numbers ss) ≤ i
  back_of s ss i t rising within got le =
      count_back s (numbers ss) i rising (omega (arith, length-numbers ss)) (rw (numbers-at ss i blank within, got blank) le)

  pub count_within : (s : ℕ) (ss : List Stamp) → count_before order s (numbers ss) ≤ length ss
  count_within s ss = omega (arith, count_le s (numbers ss), length-numbers ss)

  -- where the one at the count is not after, it is the stamp itself
  pub parted_at_count : (s : ℕ) (xs : List ℕ) → IsRising order xs → (count_before order s xs < length xs → place s order < place (get_or xs (count_before order s xs) 0) order)
      → IsParted order xs s (count_before order s xs)
  parted_at_count s xs rising behind = record {
    within = count_le s xs;
    front = λ i less. let before = front_of_count s xs i rising (omega (arith, count_le s xs)) less in omega (arith, before);
    behind = behind;
  }

  pub parted_past_count : (s : ℕ) (xs : List ℕ) (n : ℕ) → IsRising order xs → n ≡ count_before order s xs → n < length xs → place (get_or xs n 0) order ≤ place s order
      → IsParted order xs s (n + 1)
  parted_past_count s xs n rising is within le =
      let back : place s order ≤ place (get_or xs n 0) order = rw is (back_of_count s xs rising (rw (← is) within)) in
      record {
        within = omega arith;
        front = λ i less. elim (cases_lt i n) [
          | inl before ↦ let up = rising_at xs i n rising before within in omega (arith, up)
          | inr more ↦ let same : i ≡ n = omega arith in subst (λ (k : ℕ). place (get_or xs k 0) order ≤ place s order) (sym same) le
        ];
        behind = λ more. let up = rising_at xs n (n + 1) rising (omega arith) more in omega (arith, up, back);
      }

  pub parted_end : (s : ℕ) (ss : List Stamp) (n : ℕ) → IsRising order (numbers ss) → n ≡ count_before order s (numbers ss) → length ss ≤ n → IsParted order (numbers ss) s n
  parted_end s ss n rising is le =
      rw is (parted_at_count s (numbers ss) rising (λ less. absurd (omega (arith, less, le, is, length-numbers ss))))

  pub parted_here : (s : ℕ) (ss : List Stamp) (n : ℕ) (t : Stamp) → IsRising order (numbers ss) → n ≡ count_before order s (numbers ss) → n < length ss
      → ((d : Stamp) → get_or ss n d ≡ t) → place s order < place t.0 order → IsParted order (numbers ss) s n
  parted_here s ss n t rising is within got behind =
      let behind' : n < length (numbers ss) → place s order < place (get_or (numbers ss) n 0) order
      = λ less. rw (numbers-at ss n blank within, got blank) behind in
      rw is (parted_at_count s (numbers ss) rising (rw is at behind'))

  pub parted_past : (s : ℕ) (ss : List Stamp) (n : ℕ) (t : Stamp) → IsRising order (numbers ss) → n ≡ count_before order s (numbers ss) → n < length ss
      → ((d : Stamp) → get_or ss n d ≡ t) → place t.0 order ≤ place s order → IsParted order (numbers ss) s (n + 1)
  parted_past s ss n t rising is within got le =
      parted_past_count s (numbers ss) n rising is (omega (arith, length-numbers ss)) (rw (numbers-at ss n blank within, got blank) le)

  pub next_of_parted : (s : ℕ) (ss : List Stamp) (n : ℕ) (t : Stamp) → IsRising order (numbers ss) → n < length ss → ((d : Stamp) → get_or ss n d ≡ t)
      → IsParted order (numbers ss) s n → IsFirstAfter order (numbers ss) s t.0
  next_of_parted s ss n t rising within got parted =
      let less : n < length (numbers ss) = omega (arith, length-numbers ss) in
      rw (← got blank, ← numbers-at ss n blank within) (next_at s (numbers ss) n rising less (parted.behind less) parted.front)

  pub none_of_parted : (s : ℕ) (ss : List Stamp) (n : ℕ) → length ss ≤ n → IsParted order (numbers ss) s n → NoneAfter order (numbers ss) s
  none_of_parted s ss n le parted = none_at s (numbers ss) (λ i less. parted.front i (omega (arith, length-numbers ss)))
