-- Stamps in a list, and their places in it.
use Rattle.std.proofs.Common.{◌≡◌, ◌≢◌, ℕ, suc, inl, inr, ◌+◌, ◌<◌, ◌≤◌, true, false, List, [], ◌∷◌, length, refl, sym, ap, subst, ◌∙◌, arith, Some, None}
use Rattle.std.proofs.lemmas.Bool.Decides.{eqb_tells}
use Rattle.std.proofs.lemmas.Bool.{eq-eqb, cases_lt}
use Rattle.ceal_order.specs.Stamps.{NotIn, Distinct, AllBelow, is_in, place, successor, with_after, without, OneMore}

-- ---- being in a list

pub in_head : (x : ℕ) (xs : List ℕ) → is_in x (x ∷ xs) ≡ true
in_head x xs = rw (eq-eqb x x refl) refl

pub in_tail : (s x : ℕ) (xs : List ℕ) → is_in s xs ≡ true → is_in s (x ∷ xs) ≡ true
in_tail s x xs found = elim (eqb_tells x s) [ inl p ↦ rw p.0 refl | inr p ↦ rw p.0 found ]

pub not_in : (s : ℕ) (xs : List ℕ) → NotIn s xs → is_in s xs ≡ false
not_in s [] none = refl
not_in s (x ∷ xs) none = elim (eqb_tells x s) [ inl p ↦ absurd (none.0 (sym p.1)) | inr p ↦ rw p.0 (not_in s xs none.1) ]

pub NotIn-of : (s : ℕ) (xs : List ℕ) → is_in s xs ≡ false → NotIn s xs
NotIn-of s [] none = tt
NotIn-of s (x ∷ xs) none = elim (eqb_tells x s) [
  | inl p ↦ absurd (let no : true ≡ false = rw p.0 at none in cc)
  | inr p ↦ (λ e. p.1 (sym e), NotIn-of s xs (rw p.0 at none))
]

-- a number that is none of these is not one of them
pub apart : (s f : ℕ) (xs : List ℕ) → NotIn f xs → is_in s xs ≡ true → s ≢ f
apart s f [] none found same = absurd (cc)
apart s f (x ∷ xs) none found same = elim (eqb_tells x s) [
  | inl p ↦ none.0 (sym (p.1 ∙ same))
  | inr p ↦ apart s f xs none.1 (rw p.0 at found) same
]

pub apart_of : (s f : ℕ) (xs : List ℕ) → is_in f xs ≡ false → is_in s xs ≡ true → s ≢ f
apart_of s f xs none found = apart s f xs (NotIn-of f xs none) found

-- one of these is below the bound of all
pub below_of : (s n : ℕ) (xs : List ℕ) → is_in s xs ≡ true → AllBelow n xs → s < n
below_of s n [] found below = absurd (cc)
below_of s n (x ∷ xs) found below = elim (eqb_tells x s) [
  | inl p ↦ subst (λ (k : ℕ). k < n) p.1 below.0
  | inr p ↦ below_of s n xs (rw p.0 at found) below.1
]

pub AllBelow-more : (n m : ℕ) (xs : List ℕ) → n ≤ m → AllBelow n xs → AllBelow m xs
AllBelow-more n m [] le h = tt
AllBelow-more n m (x ∷ xs) le h = (omega (arith, h.0), AllBelow-more n m xs le h.1)

-- ---- places

pub place_below : (s : ℕ) (xs : List ℕ) → is_in s xs ≡ true → place s xs < length xs
place_below s [] found = absurd (cc)
place_below s (x ∷ xs) found = elim (eqb_tells x s) [
  | inl p ↦ rw p.0 (omega arith)
  | inr p ↦ rw p.0 (let rest : place s xs < length xs = place_below s xs (rw p.0 at found) in omega arith)
]

pub place_head : (x : ℕ) (xs : List ℕ) → place x (x ∷ xs) ≡ 0
place_head x xs = rw (eq-eqb x x refl) refl

pub place_tail : (a x : ℕ) (xs : List ℕ) → NotIn x xs → is_in a xs ≡ true → place a (x ∷ xs) ≡ 1 + place a xs
place_tail a x xs none found = elim (eqb_tells x a) [
  | inl p ↦ absurd (apart a x xs none found (sym p.1))
  | inr p ↦ rw p.0 refl
]

-- two stamps at one place are one
pub place_tells : (a b : ℕ) (xs : List ℕ) → is_in a xs ≡ true → is_in b xs ≡ true → place a xs ≡ place b xs → a ≡ b
place_tells a b [] found also same = absurd (cc)
place_tells a b (x ∷ xs) found also same = elim (eqb_tells x a) [
  | inl p ↦ elim (eqb_tells x b) [
    | inl q ↦ sym p.1 ∙ q.1
    | inr q ↦ let no : 0 ≡ 1 + place b xs = rw (p.0, q.0) at same in absurd (omega arith)
  ]
  | inr p ↦ elim (eqb_tells x b) [
    | inl q ↦ let no : 1 + place a xs ≡ 0 = rw (p.0, q.0) at same in absurd (omega arith)
    | inr q ↦
        let rest : 1 + place a xs ≡ 1 + place b xs = rw (p.0, q.0) at same in
        let less : place a xs ≡ place b xs = omega arith in place_tells a b xs (rw p.0 at found) (rw q.0 at also) less
  ]
]

-- ---- the one after a stamp

pub successor_place : (s y : ℕ) (xs : List ℕ) → Distinct xs → successor s xs ≡ Some y → (is_in y xs ≡ true) × (place y xs ≡ place s xs + 1)
successor_place s y [] distinct h = absurd (cc)
successor_place s y (x ∷ []) distinct h = elim (eqb_tells x s) [
  | inl p ↦ absurd (let no : None ≡ Some y = rw p.0 at h in cc)
  | inr p ↦ absurd (let no : None ≡ Some y = rw p.0 at h in cc)
]
successor_place s y (x ∷ z ∷ zs) distinct h = elim (eqb_tells x s) [
  | inl p ↦
      let same : Some z ≡ Some y = rw p.0 at h in
      let is : z ≡ y = cc in
      let here : is_in z (x ∷ z ∷ zs) ≡ true = in_tail z x (z ∷ zs) (in_head z zs) in
      let at : place z (x ∷ z ∷ zs) ≡ 1 = elim (eqb_tells x z) [ inl q ↦ absurd (distinct.0.0 q.1) | inr q ↦ rw (q.0, eq-eqb z z refl) refl ] in
      subst (λ (k : ℕ). (is_in k (x ∷ z ∷ zs) ≡ true) × (place k (x ∷ z ∷ zs) ≡ place s (x ∷ z ∷ zs) + 1)) is (here, rw (p.0, at) refl)
  | inr p ↦
      let rest = successor_place s y (z ∷ zs) distinct.1 (rw p.0 at h) in (
        in_tail y x (z ∷ zs) rest.0,
        elim (eqb_tells x y) [
          | inl q ↦ absurd (apart y x (z ∷ zs) distinct.0 rest.0 (sym q.1))
          | inr q ↦ rw (p.0, q.0) (let more = rest.1 in omega arith)
        ],
      )
]

-- only the last has none after it
pub last_place : (s : ℕ) (xs : List ℕ) → is_in s xs ≡ true → successor s xs ≡ None → place s xs + 1 ≡ length xs
last_place s [] found h = absurd (cc)
last_place s (x ∷ []) found h = elim (eqb_tells x s) [
  | inl p ↦ rw p.0 refl
  | inr p ↦ absurd (let no : false ≡ true = rw p.0 at found in cc)
]
last_place s (x ∷ z ∷ zs) found h = elim (eqb_tells x s) [
  | inl p ↦ absurd (let no : Some z ≡ None = rw p.0 at h in cc)
  | inr p ↦ rw p.0 (let rest = last_place s (z ∷ zs) (rw p.0 at found) (rw p.0 at h) in omega (arith, rest))
]

-- ---- one stamp more

module _ (s n : ℕ) where
  pub length-with_after : (xs : List ℕ) → is_in s xs ≡ true → length (with_after s n xs) ≡ suc (length xs)
  length-with_after [] found = absurd (cc)
  length-with_after (x ∷ xs) found = elim (eqb_tells x s) [
    | inl p ↦ rw p.0 refl
    | inr p ↦ rw p.0 (ap (λ (k : ℕ). suc k) (length-with_after xs (rw p.0 at found)))
  ]

  pub new_in : (xs : List ℕ) → is_in s xs ≡ true → is_in n (with_after s n xs) ≡ true
  new_in [] found = absurd (cc)
  new_in (x ∷ xs) found = elim (eqb_tells x s) [
    | inl p ↦ rw p.0 (in_tail n x (n ∷ xs) (in_head n xs))
    | inr p ↦ rw p.0 (in_tail n x (with_after s n xs) (new_in xs (rw p.0 at found)))
  ]

  pub old_in : (a : ℕ) (xs : List ℕ) → is_in a xs ≡ true → is_in a (with_after s n xs) ≡ true
  old_in a [] found = absurd (cc)
  old_in a (x ∷ xs) found = elim (eqb_tells x s) [
    | inl p ↦ rw p.0 (elim (eqb_tells x a) [ inl q ↦ rw q.0 refl | inr q ↦ rw q.0 (in_tail a n xs (rw q.0 at found)) ])
    | inr p ↦ rw p.0 (elim (eqb_tells x a) [ inl q ↦ rw q.0 refl | inr q ↦ rw q.0 (old_in a xs (rw q.0 at found)) ])
  ]

  pub only_old : (a : ℕ) (xs : List ℕ) → is_in a (with_after s n xs) ≡ true → a ≢ n → is_in a xs ≡ true
  only_old a [] found other = found
  only_old a (x ∷ xs) found other = elim (eqb_tells x a) [
    | inl q ↦ rw q.0 refl
    | inr q ↦ rw q.0 (elim (eqb_tells x s) [
      | inl p ↦ elim (eqb_tells n a) [
        | inl r ↦ absurd (other (sym r.1))
        | inr r ↦ rw (p.0, q.0, r.0) at found
      ]
      | inr p ↦ only_old a xs (rw (p.0, q.0) at found) other
    ])
  ]

  -- up to s places stay
  pub place_up_to : (a : ℕ) (xs : List ℕ) → is_in a xs ≡ true → place a xs ≤ place s xs → place a (with_after s n xs) ≡ place a xs
  place_up_to a [] found low = absurd (cc)
  place_up_to a (x ∷ xs) found low = elim (eqb_tells x a) [
    | inl q ↦ elim (eqb_tells x s) [ inl p ↦ rw (p.0, q.0) refl | inr p ↦ rw (p.0, q.0) refl ]
    | inr q ↦ elim (eqb_tells x s) [
      | inl p ↦ let no : 1 + place a xs ≤ 0 = rw (p.0, q.0) at low in absurd (omega arith)
      | inr p ↦
          let le : 1 + place a xs ≤ 1 + place s xs = rw (p.0, q.0) at low in
          let less : place a xs ≤ place s xs = omega arith in
          rw (p.0, q.0) (ap (λ (k : ℕ). 1 + k) (place_up_to a xs (rw q.0 at found) less))
    ]
  ]

  -- after s they rise by one
  pub place_behind : (a : ℕ) (xs : List ℕ) → is_in a xs ≡ true → is_in n xs ≡ false → place s xs < place a xs → place a (with_after s n xs) ≡ place a xs + 1
  place_behind a [] found fresh low = absurd (cc)
  place_behind a (x ∷ xs) found fresh low = elim (eqb_tells x a) [
    | inl q ↦ let no : place s (x ∷ xs) < 0 = rw q.0 at low in absurd (omega arith)
    | inr q ↦ elim (eqb_tells n a) [
      | inl r ↦ absurd (apart_of a n (x ∷ xs) fresh found (sym r.1))
      | inr r ↦ elim (eqb_tells x s) [
        | inl p ↦ rw (p.0, q.0, r.0) (omega arith)
        | inr p ↦ elim (eqb_tells x n) [
          | inl t ↦ absurd (let no : true ≡ false = rw t.0 at fresh in cc)
          | inr t ↦
              let lt : 1 + place s xs < 1 + place a xs = rw (p.0, q.0) at low in
              let less : place s xs < place a xs = omega arith in
              let rest : place a (with_after s n xs) ≡ place a xs + 1 = place_behind a xs (rw q.0 at found) (rw t.0 at fresh) less in
              rw (p.0, q.0) (omega arith)
        ]
      ]
    ]
  ]

  -- the new one is directly after s
  pub place_new : (xs : List ℕ) → is_in s xs ≡ true → is_in n xs ≡ false → place n (with_after s n xs) ≡ place s (with_after s n xs) + 1
  place_new [] found fresh = absurd (cc)
  place_new (x ∷ xs) found fresh = elim (eqb_tells x n) [
    | inl t ↦ absurd (let no : true ≡ false = rw t.0 at fresh in cc)
    | inr t ↦ elim (eqb_tells x s) [
      | inl p ↦ rw (p.0, t.0, eq-eqb n n refl) (rw p.0 refl)
      | inr p ↦
          let rest : place n (with_after s n xs) ≡ place s (with_after s n xs) + 1 = place_new xs (rw p.0 at found) (rw t.0 at fresh) in
          rw (p.0, t.0) (rw p.0 (omega arith))
    ]
  ]

  pub inserted : (xs : List ℕ) → is_in s xs ≡ true → is_in n xs ≡ false → OneMore n xs (with_after s n xs)
  inserted xs found fresh =
      let up : (a : ℕ) → is_in a xs ≡ true → place a xs ≤ place s xs → place a (with_after s n xs) ≡ place a xs = λ a h. place_up_to a xs h in
      let behind : (a : ℕ) → is_in a xs ≡ true → place s xs < place a xs → place a (with_after s n xs) ≡ place a xs + 1 = λ a h. place_behind a xs h fresh in
      record {
        absent = fresh;
        there = new_in xs found;
        others = λ a. old_in a xs;
        only = λ a. only_old a xs;
        order = λ a b a_in b_in. elim (cases_lt (place s xs) (place a xs)) [
          | inl p ↦ elim (cases_lt (place s xs) (place b xs)) [
            | inl q ↦ let at_a = behind a a_in p in let at_b = behind b b_in q in (λ h. omega (arith, h, at_a, at_b), λ h. omega (arith, h, at_a, at_b))
            | inr q ↦ let at_a = behind a a_in p in let at_b = up b b_in q in (λ h. absurd (omega (arith, h)), λ h. absurd (omega (arith, h, at_a, at_b)))
          ]
          | inr p ↦ elim (cases_lt (place s xs) (place b xs)) [
            | inl q ↦ let at_a = up a a_in p in let at_b = behind b b_in q in (λ h. omega (arith, h, at_a, at_b), λ h. omega arith)
            | inr q ↦ let at_a = up a a_in p in let at_b = up b b_in q in (λ h. omega (arith, h, at_a, at_b), λ h. omega (arith, h, at_a, at_b))
          ]
        ];
      }

-- ---- one stamp less

module _ (s : ℕ) where
  pub length-without : (xs : List ℕ) → is_in s xs ≡ true → suc (length (without s xs)) ≡ length xs
  length-without [] found = absurd (cc)
  length-without (x ∷ xs) found = elim (eqb_tells x s) [
    | inl p ↦ rw p.0 refl
    | inr p ↦ rw p.0 (ap (λ (k : ℕ). suc k) (length-without xs (rw p.0 at found)))
  ]

  pub left_in : (a : ℕ) (xs : List ℕ) → is_in a (without s xs) ≡ true → is_in a xs ≡ true
  left_in a [] found = found
  left_in a (x ∷ xs) found = elim (eqb_tells x s) [
    | inl p ↦ in_tail a x xs (rw p.0 at found)
    | inr p ↦ elim (eqb_tells x a) [ inl q ↦ rw q.0 refl | inr q ↦ rw q.0 (left_in a xs (rw (p.0, q.0) at found)) ]
  ]

  pub other_left : (a : ℕ) (xs : List ℕ) → is_in a xs ≡ true → a ≢ s → is_in a (without s xs) ≡ true
  other_left a [] found other = absurd (cc)
  other_left a (x ∷ xs) found other = elim (eqb_tells x a) [
    | inl q ↦ elim (eqb_tells x s) [ inl p ↦ absurd (other (sym q.1 ∙ p.1)) | inr p ↦ rw (p.0, q.0) refl ]
    | inr q ↦ elim (eqb_tells x s) [ inl p ↦ rw p.0 (rw q.0 at found) | inr p ↦ rw (p.0, q.0) (other_left a xs (rw q.0 at found) other) ]
  ]

  pub gone : (xs : List ℕ) → Distinct xs → NotIn s (without s xs)
  gone [] distinct = tt
  gone (x ∷ xs) distinct = elim (eqb_tells x s) [
    | inl p ↦ rw p.0 (subst (λ (k : ℕ). NotIn k xs) p.1 distinct.0)
    | inr p ↦ rw p.0 (λ e. p.1 (sym e), gone xs distinct.1)
  ]

  -- before s places stay
  pub place_before : (a : ℕ) (xs : List ℕ) → is_in a xs ≡ true → place a xs < place s xs → place a (without s xs) ≡ place a xs
  place_before a [] found low = absurd (cc)
  place_before a (x ∷ xs) found low = elim (eqb_tells x s) [
    | inl p ↦ let no : place a (x ∷ xs) < 0 = rw p.0 at low in absurd (omega arith)
    | inr p ↦ elim (eqb_tells x a) [
      | inl q ↦ rw (p.0, q.0) refl
      | inr q ↦
          let lt : 1 + place a xs < 1 + place s xs = rw (p.0, q.0) at low in
          let less : place a xs < place s xs = omega arith in
          rw (p.0, q.0) (ap (λ (k : ℕ). 1 + k) (place_before a xs (rw q.0 at found) less))
    ]
  ]

  -- after s they fall by one
  pub place_beyond : (a : ℕ) (xs : List ℕ) → is_in a xs ≡ true → place s xs < place a xs → place a xs ≡ place a (without s xs) + 1
  place_beyond a [] found low = absurd (cc)
  place_beyond a (x ∷ xs) found low = elim (eqb_tells x a) [
    | inl q ↦ let no : place s (x ∷ xs) < 0 = rw q.0 at low in absurd (omega arith)
    | inr q ↦ elim (eqb_tells x s) [
      | inl p ↦ rw (p.0, q.0) (omega arith)
      | inr p ↦
          let lt : 1 + place s xs < 1 + place a xs = rw (p.0, q.0) at low in
          let less : place s xs < place a xs = omega arith in
          let rest : place a xs ≡ place a (without s xs) + 1 = place_beyond a xs (rw q.0 at found) less in
          rw (p.0, q.0) (omega arith)
    ]
  ]

  pub deleted : (xs : List ℕ) → is_in s xs ≡ true → Distinct xs → OneMore s (without s xs) xs
  deleted xs found distinct =
      let none = not_in s (without s xs) (gone xs distinct) in
      let whole : (a : ℕ) → is_in a (without s xs) ≡ true → is_in a xs ≡ true = λ a h. left_in a xs h in
      let other : (a : ℕ) → is_in a (without s xs) ≡ true → place a xs ≢ place s xs =
      λ a h same. apart_of a s (without s xs) none h (place_tells a s xs (left_in a xs h) found same) in
      record {
        absent = none;
        there = found;
        others = whole;
        only = λ a. other_left a xs;
        order = λ a b a_in b_in.
            let not_a = other a a_in in let not_b = other b b_in in
            elim (cases_lt (place s xs) (place a xs)) [
              | inl p ↦ let at_a = place_beyond a xs (whole a a_in) p in elim (cases_lt (place s xs) (place b xs)) [
                | inl q ↦ let at_b = place_beyond b xs (whole b b_in) q in (λ h. omega (arith, h, at_a, at_b), λ h. omega (arith, h, at_a, at_b))
                | inr q ↦ let less : place b xs < place s xs = omega (arith, not_b) in let at_b = place_before b xs (whole b b_in) less in
                    (λ h. absurd (omega (arith, h, at_a, at_b)), λ h. absurd (omega (arith, h)))
              ]
              | inr p ↦ let low : place a xs < place s xs = omega (arith, not_a) in let at_a = place_before a xs (whole a a_in) low in elim (cases_lt (place s xs) (place b xs)) [
                | inl q ↦ let at_b = place_beyond b xs (whole b b_in) q in (λ h. omega arith, λ h. omega (arith, h, at_a, at_b))
                | inr q ↦ let less : place b xs < place s xs = omega (arith, not_b) in let at_b = place_before b xs (whole b b_in) less in
                    (λ h. omega (arith, h, at_a, at_b), λ h. omega (arith, h, at_a, at_b))
              ]
            ];
      }
