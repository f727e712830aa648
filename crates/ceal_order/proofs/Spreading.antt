-- Labels given again to links one after another.
use Rattle.std.proofs.Common.{◌≡◌, ◌≢◌, ℕ, suc, inl, inr, ◌+◌, ◌-◌, ◌*◌, ◌<◌, ◌≤◌, ◌^◌, true, List, [], ◌∷◌, ap, ◌∙◌, arith}
use Rattle.std.proofs.Math.Nat.{mul-le-mul_right}
use Rattle.std.proofs.lemmas.Bool.{cases_lt}
use Rattle.std.proofs.lemmas.Bool.Decides.{eqb_tells}
use Rattle.ceal_order.specs.declared.link.Link.{Link}
use Rattle.ceal_order.specs.Stamps.{Distinct, is_in, place}
use Rattle.ceal_order.specs.Links.{no_link, Rising, IsLine, Between, next_of, prev_of, label_of, stamps_of}
use Rattle.ceal_order.specs.Runs.{LowBefore, HighAfter, IsRun, Labelled, Spread}
use Rattle.ceal_order.proofs.Places.{in_head, in_tail, place_head, place_tail, place_tells}
use Rattle.ceal_order.proofs.Neighbours.{label_in, rises, after_is}

-- labels that rise from each place to the next
rising_by_places : (prev label prev' label' : ℕ → ℕ) (xs : List ℕ) → Distinct xs → Rising prev label xs → ((k : ℕ) → prev' k ≡ prev k)
    → ((s : ℕ) → is_in s xs ≡ true → label' s < 2 ^ 62)
    → ((a b : ℕ) → is_in a xs ≡ true → is_in b xs ≡ true → place b xs ≡ place a xs + 1 → label' a < label' b) → Rising prev' label' xs
rising_by_places prev label prev' label' [] distinct rising same low step = tt
rising_by_places prev label prev' label' (x ∷ []) distinct rising same low step = (low x (in_head x []), tt, tt)
rising_by_places prev label prev' label' (x ∷ y ∷ ys) distinct rising same low step =
    let tail_in : (s : ℕ) → is_in s (y ∷ ys) ≡ true → is_in s (x ∷ y ∷ ys) ≡ true = λ s h. in_tail s x (y ∷ ys) h in
    let at : (s : ℕ) → is_in s (y ∷ ys) ≡ true → place s (x ∷ y ∷ ys) ≡ 1 + place s (y ∷ ys) = λ s h. place_tail s x (y ∷ ys) distinct.0 h in
    let at_x : place x (x ∷ y ∷ ys) ≡ 0 = place_head x (y ∷ ys) in
    let at_y : place y (x ∷ y ∷ ys) ≡ 1 = at y (in_head y ys) ∙ ap (λ (k : ℕ). 1 + k) (place_head y ys) in
    let one : place y (x ∷ y ∷ ys) ≡ place x (x ∷ y ∷ ys) + 1 = omega arith in
    let rest : Rising prev' label' (y ∷ ys) = rising_by_places prev label prev' label' (y ∷ ys) distinct.1 rising.2 same
    (λ s h. low s (tail_in s h))
    (λ a b a_in b_in next_to.
    let pa = at a a_in in let pb = at b b_in in
    let both : place b (x ∷ y ∷ ys) ≡ place a (x ∷ y ∷ ys) + 1 = omega (arith, pa, pb, next_to) in
    step a b (tail_in a a_in) (tail_in b b_in) both) in (
      low x (in_head x (y ∷ ys)),
      (same y ∙ rising.1.0, step x y (in_head x (y ∷ ys)) (tail_in y (in_head y ys)) one),
      rest,
    )

-- multiples of the gap
pub row : (j count gap : ℕ) → j < count → j * gap + gap ≤ count * gap
row j count gap less =
    let le : suc j ≤ count = omega arith in
    let most : suc j * gap ≤ count * gap = mul-le-mul_right gap le in
    omega arith

next_row : (j gap : ℕ) → (j + 1) * gap ≡ j * gap + gap
next_row j gap = omega arith

-- one link more
module _ (old now new : List Link) (first k low gap at : ℕ) where
  pub spread_one : Spread old now first k low gap → Labelled now new at (low + k * gap) → is_in at (stamps_of old) ≡ true
      → place at (stamps_of old) ≡ place first (stamps_of old) + k → Spread old new first (k + 1) low gap
  spread_one done one found at_place =
      let S = stamps_of old in
      record {
        same = record {
          long = one.same.long ∙ done.same.long;
          next = λ q. one.same.next q ∙ done.same.next q;
          prev = λ q. one.same.prev q ∙ done.same.prev q;
        };
        inside = λ s j s_in s_place less. elim (eqb_tells j k) [
          | inl p ↦
              let to_at : place s S ≡ place at S = let is = p.1 in omega (arith, s_place, at_place, is) in
              let is_at : s ≡ at = place_tells s at S s_in found to_at in
              rw (is_at, p.1) one.changed
          | inr p ↦
              let other : s ≢ at = λ e. let to_at = ap (λ (q : ℕ). place q S) e in p.1 (omega (arith, s_place, at_place, to_at)) in
              let short : j < k = let differ = p.1 in omega (arith, differ, less) in
              one.others s other ∙ done.inside s j s_in s_place short
        ];
        before = λ s s_in lower.
            let other : s ≢ at = λ e. let to_at = ap (λ (q : ℕ). place q S) e in absurd (omega (arith, lower, at_place, to_at)) in
            one.others s other ∙ done.before s s_in lower;
        after = λ s s_in higher.
            let other : s ≢ at = λ e. let to_at = ap (λ (q : ℕ). place q S) e in absurd (omega (arith, higher, at_place, to_at)) in
            let beyond : place first S + k ≤ place s S = omega (arith, higher) in
            one.others s other ∙ done.after s s_in beyond;
      }

-- all of a run
module _ (old new : List Link) (first count low gap size at last : ℕ) (line : IsLine old (stamps_of old)) (spread : Spread old new first count low gap)
    (run : IsRun old at first last count) (lower : LowBefore old first low) (higher : HighAfter old last (low + size))
    (wide : 2 ≤ gap) (fits : count * gap ≤ size) (within : low + size ≤ 2 ^ 62) where
  -- how far a link of the run is from its first
  inner : (s : ℕ) → is_in s (stamps_of old) ≡ true → place first (stamps_of old) ≤ place s (stamps_of old) → place s (stamps_of old) < place first (stamps_of old) + count
      → label_of new s ≡ low + (place s (stamps_of old) - place first (stamps_of old)) * gap
  inner s s_in from to =
      spread.inside s (place s (stamps_of old) - place first (stamps_of old)) s_in (omega arith) (omega arith)

  new_low : (s : ℕ) → is_in s (stamps_of old) ≡ true → label_of new s < 2 ^ 62
  new_low s s_in = elim (cases_lt (place s (stamps_of old)) (place first (stamps_of old))) [
    | inl p ↦ rw (spread.before s s_in p) (label_in old (stamps_of old) line s s_in)
    | inr p ↦ elim (cases_lt (place s (stamps_of old)) (place first (stamps_of old) + count)) [
      | inl q ↦
          let is = inner s s_in p q in
          let j = place s (stamps_of old) - place first (stamps_of old) in
          let short : j < count = omega arith in
          let all = row j count gap short in
          omega (arith, is, all, wide, fits, within)
      | inr q ↦ rw (spread.after s s_in q) (label_in old (stamps_of old) line s s_in)
    ]
  ]

  new_step : (a b : ℕ) → is_in a (stamps_of old) ≡ true → is_in b (stamps_of old) ≡ true → place b (stamps_of old) ≡ place a (stamps_of old) + 1
      → label_of new a < label_of new b
  new_step a b a_in b_in next_to =
      let S = stamps_of old in
      let p = place first S in
      let counted = run.counted in
      let from = run.from in
      let to = run.to in
      let some : 0 < count = omega (arith, counted, from, to) in
      let was : label_of old a < label_of old b = rises old S line a b a_in b_in (omega (arith, next_to)) in
      elim (cases_lt (place b S) p) [
        | inl b_low ↦ rw (spread.before a a_in (omega (arith, next_to, b_low)), spread.before b b_in b_low) was
        | inr b_from ↦ elim (cases_lt (place a S) p) [
          | inl a_low ↦
              let is_a = spread.before a a_in a_low in
              let is_b : label_of new b ≡ low + 0 * gap = spread.inside b 0 b_in (omega (arith, next_to, a_low, b_from)) some in
              let less = lower a a_in a_low in
              omega (arith, is_a, is_b, less)
          | inr a_from ↦ elim (cases_lt (place a S) (p + count)) [
            | inl a_to ↦
                let j = place a S - p in
                let a_at : place a S ≡ p + j = omega (arith, a_from) in
                let short : j < count = omega (arith, a_to, a_at) in
                let is_a : label_of new a ≡ low + j * gap = spread.inside a j a_in a_at short in
                elim (cases_lt (place b S) (p + count)) [
                  | inl b_to ↦
                      let b_at : place b S ≡ p + (j + 1) = omega (arith, a_at, next_to) in
                      let is_b : label_of new b ≡ low + (j + 1) * gap = spread.inside b (j + 1) b_in b_at (omega (arith, b_at, b_to)) in
                      let more = next_row j gap in
                      omega (arith, is_a, is_b, more, wide)
                  | inr b_after ↦
                      let is_b = spread.after b b_in b_after in
                      let beyond : place last S < place b S = omega (arith, counted, b_after) in
                      let high = higher b b_in beyond in
                      let all = row j count gap short in
                      omega (arith, is_a, is_b, high, all, wide, fits)
                ]
            | inr a_after ↦ rw (spread.after a a_in a_after, spread.after b b_in (omega (arith, next_to, a_after))) was
          ]
        ]
      ]

  pub new_rising : Rising (prev_of new) (label_of new) (stamps_of old)
  new_rising = rising_by_places (prev_of old) (label_of old) (prev_of new) (label_of new) (stamps_of old) line.distinct line.rising spread.same.prev new_low new_step

  -- room after a link of the run
  pub new_room : label_of new at + gap ≤ 2 ^ 62
  new_room =
      let S = stamps_of old in
      let p = place first S in
      let counted = run.counted in
      let from = run.from in
      let to = run.to in
      let j = place at S - p in
      let at_place : place at S ≡ p + j = omega (arith, from) in
      let short : j < count = omega (arith, at_place, to, counted) in
      let is : label_of new at ≡ low + j * gap = spread.inside at j run.here at_place short in
      let all = row j count gap short in
      omega (arith, is, all, fits, within)

  pub new_between : (half : ℕ) → 0 < half → half < gap → Between new at (label_of new at + half)
  new_between half some less =
      let S = stamps_of old in
      let p = place first S in
      let counted = run.counted in
      let from = run.from in
      let to = run.to in
      let j = place at S - p in
      let at_place : place at S ≡ p + j = omega (arith, from) in
      let short : j < count = omega (arith, at_place, to, counted) in
      let is : label_of new at ≡ low + j * gap = spread.inside at j run.here at_place short in
      let all = row j count gap short in
      let y = next_of new at in
      record {
        above = omega (arith, some);
        ends = λ e. omega (arith, is, all, fits, within, less);
        below = λ inside.
            let inside' : next_of old at ≢ no_link = λ e. inside (spread.same.next at ∙ e) in
            let old_y = after_is old S line at run.here inside' in
            let y_in : is_in y S ≡ true = rw (spread.same.next at) old_y.0 in
            let y_place : place y S ≡ place at S + 1 = rw (spread.same.next at) old_y.1 in
            elim (cases_lt (place y S) (p + count)) [
              | inl y_to ↦
                  let y_at : place y S ≡ p + (j + 1) = omega (arith, at_place, y_place) in
                  let is_y : label_of new y ≡ low + (j + 1) * gap = spread.inside y (j + 1) y_in y_at (omega (arith, y_at, y_to)) in
                  let more = next_row j gap in
                  omega (arith, is, is_y, more, less)
              | inr y_after ↦
                  let is_y = spread.after y y_in y_after in
                  let beyond : place last S < place y S = omega (arith, counted, y_after) in
                  let high = higher y y_in beyond in
                  omega (arith, is, is_y, high, all, fits, less)
            ];
      }
