-- Sets of numbers as chunks of bits.
use Rattle.std.proofs.Common.{◌≡◌, ◌≢◌, ◌⊎◌, inl, inr, ℕ, zero, suc, ◌+◌, ◌-◌, ◌*◌, ◌/◌, ◌%◌, ◌^◌, ◌<◌, ◌≤◌, max, Bool}
use Rattle.std.proofs.Common.{true, false, ◌==◌, ◌||◌, ◌&&◌, not, Option, Some, List, [], ◌∷◌, ◌++◌, length}
use Rattle.std.proofs.Common.{if◌then◌else◌, refl, ap, sym, ◌∙◌, subst, arith, w64, add-one, ltb, length-append}
use Rattle.std.proofs.Common.{append_assoc, add-zero, add-suc, take}
use Rattle.std.specs.Int.{bit_at, bit_not}
use Rattle.std.specs.Prelude.{bit_and, bit_or, insert, slice_get, slice_set}
use Rattle.std.proofs.lemmas.Nat.Bits.{bit_at-lt, bit_at-zero, bit_at_or, bit_at_clear_same, bit_at_clear_other, bit_at_set_same, bit_at_set_other, same_from_bits_below}
use Rattle.std.proofs.lemmas.Bool.Decides.{eqb_tells, leb_tells}
use Rattle.std.proofs.lemmas.Bool.{lt-ltb, le-ltb}
use Rattle.std.proofs.lemmas.Nat.{le_or_l}
use Rattle.std.proofs.Math.Bool.{or_assoc}
use Rattle.std.specs.Int.Bits.{or_zero_l}
use Rattle.std.proofs.lemmas.List.{append-nil}
use mir.Val.{bits}
use Rattle.ceal_flow.specs.declared.bits.Chunk.{Chunk}
use Rattle.ceal_flow.specs.Bits.{bits_of, has_bit, inside, members_below, members, AscendFrom, AreOrdered, AreBefore, IsNotBefore}
use Rattle.ceal_flow.specs.Sets.{is_in, is_that, IsAscending}
use Rattle.ceal_flow.proofs.ChunkFacts.{all-before, before-later, before-more, before-none, before-there, bits-here}
use Rattle.ceal_flow.proofs.ChunkFacts.{bits-none, none-at-end, prefix-before, put-here, set-here, take-here, take-none}
use Rattle.ceal_flow.proofs.ChunkFacts.{take-others}

-- no chunk is there past the last number
pub bits-late : (a : ℕ) (cs : List Chunk) (k : ℕ) → AscendFrom a cs → 2 ^ 26 ≤ k → bits_of cs k ≡ 0
bits-late a [] k h l = refl
bits-late a (c ∷ cs) k h l =
    let low = h.1 in
    elim (eqb_tells c.at k) [
      | inl p ↦ let q = p.1 in absurd (omega (arith, q, low, l))
      | inr p ↦ rw p.0 (bits-late (c.at + 1) cs k h.2 l)
    ]

-- a word without the bit of a number
pub but-bit : (n v at j : ℕ) (except : Option ℕ) → except ≡ Some v → v / 64 ≡ at → j < 64
    → bit_at (bit_and n (bit_not w64 (1 * 2 ^ (v % 64) % 2 ^ bits w64))) j ≡ (if is_that except (at * 64 + j) then 0 else bit_at n j)
but-bit n v at j except e d l =
    let within : v % 64 < 64 = omega arith in
    elim (eqb_tells v (at * 64 + j)) [
      | inl p ↦
          let q = p.1 in
          let same : j ≡ v % 64 = omega (arith, q, d, l) in
          rw (e, p.0) (subst (λ i. bit_at (bit_and n (bit_not w64 (1 * 2 ^ (v % 64) % 2 ^ bits w64))) i ≡ 0) (sym same) (bit_at_clear_same w64 n (v % 64) within))
      | inr p ↦
          let q = p.1 in
          let other : j ≢ v % 64 = λ s. q (omega (arith, s, d, l)) in
          rw (e, p.0) (bit_at_clear_other w64 n (v % 64) within j l other)
    ]

-- numbers that differ differ in a bit
pub record Differs (a b : ℕ) : Type 0 where
  pub bit : ℕ
  pub low : bit < 64
  pub apart : bit_at a bit ≢ bit_at b bit

find-bit : (n a b : ℕ) → n ≤ 64 → Differs a b ⊎ ((i : ℕ) → i < n → bit_at a i ≡ bit_at b i)
find-bit zero a b h = inr (λ i l. absurd (omega (arith, l)))
find-bit (suc n) a b h = elim (eqb_tells (bit_at a n) (bit_at b n)) [
  | inr p ↦ inl (record { bit = n; low = omega arith; apart = p.1 })
  | inl p ↦ elim (find-bit n a b (omega arith)) [
    | inl d ↦ inl d
    | inr all ↦ inr (λ i l. elim (eqb_tells i n) [
      | inl q ↦ subst (λ k. bit_at a k ≡ bit_at b k) (sym q.1) p.1
      | inr q ↦ let r = q.1 in all i (omega (arith, r, l))
    ])
  ]
]

pub differs : (a b : ℕ) → a < 2 ^ 64 → b < 2 ^ 64 → a ≢ b → Differs a b
differs a b la lb ne = elim (find-bit 64 a b (omega arith)) [
  | inl d ↦ d
  | inr all ↦ absurd (ne (same_from_bits_below 64 a b la lb all))
]

-- a word to which bits were added
pub put-differs : (x y bits : ℕ) → y ≡ bit_or x bits → y < 2 ^ 64 → x ≢ y → Differs x y
put-differs x y bits e l n =
    let less : x ≤ y = rw e (le_or_l x bits) in differs x y (omega (arith, less, l)) l n

le-or-lt : (a b : ℕ) → (a ≤ b) ⊎ (b < a)
le-or-lt a b = elim (leb_tells a b) [ inl p ↦ inl p.1 | inr p ↦ inr p.1 ]

pub no-more : (a : ℕ) (t : Bool) → a ≡ max a (if t then 0 else 0)
no-more a true = omega arith
no-more a false = omega arith

-- the bits of a set that another was joined to
or-bit : (a b c : ℕ) (t : Bool) → a < 2 → b < 2 → c ≡ max a (if t then 0 else b) → (c == 1) ≡ ((a == 1) || ((b == 1) && not t))
or-bit zero zero c true la lb e = rw e refl
or-bit zero zero c false la lb e = rw e refl
or-bit zero (suc zero) c true la lb e = rw e refl
or-bit zero (suc zero) c false la lb e = rw e refl
or-bit zero (suc (suc b)) c t la lb e = absurd (omega arith)
or-bit (suc zero) zero c true la lb e = rw e refl
or-bit (suc zero) zero c false la lb e = rw e refl
or-bit (suc zero) (suc zero) c true la lb e = rw e refl
or-bit (suc zero) (suc zero) c false la lb e = rw e refl
or-bit (suc zero) (suc (suc b)) c t la lb e = absurd (omega arith)
or-bit (suc (suc a)) b c t la lb e = absurd (omega arith)

-- bit for bit, the one set and the other but one number
abbrev pub JoinedAt : List Chunk → List Chunk → List Chunk → Option ℕ → ℕ → ℕ → Type 0
JoinedAt new old others except k j =
    bit_at (bits_of new k) j ≡ max (bit_at (bits_of old k) j) (if is_that except (k * 64 + j) then 0 else bit_at (bits_of others k) j)

pub has-joined : (new old others : List Chunk) (except : Option ℕ) → ((k j : ℕ) → j < 64 → JoinedAt new old others except k j)
    → (w : ℕ) → has_bit new w ≡ (has_bit old w || (has_bit others w && not (is_that except w)))
has-joined new old others except h w =
    let same : w / 64 * 64 + w % 64 ≡ w = omega arith in
    or-bit (bit_at (bits_of old (w / 64)) (w % 64)) (bit_at (bits_of others (w / 64)) (w % 64)) (bit_at (bits_of new (w / 64)) (w % 64)) (is_that except w)
    (bit_at-lt (bits_of old (w / 64)) (w % 64)) (bit_at-lt (bits_of others (w / 64)) (w % 64))
    (subst (λ v. bit_at (bits_of new (w / 64)) (w % 64)
    ≡ max (bit_at (bits_of old (w / 64)) (w % 64)) (if is_that except v then 0 else bit_at (bits_of others (w / 64)) (w % 64))) same
    (h (w / 64) (w % 64) (omega arith)))

-- one more, where a bit is not what it was
pub record Added (old new : List Chunk) : Type 0 where
  pub number : ℕ
  pub out : has_bit old number ≡ false
  pub inside : has_bit new number ≡ true

bit-added : (a b c : ℕ) (t : Bool) → a < 2 → b < 2 → c ≡ max a (if t then 0 else b) → a ≢ c → ((a == 1) ≡ false) × ((c == 1) ≡ true)
bit-added zero zero c true la lb e n = absurd (n (sym e))
bit-added zero zero c false la lb e n = absurd (n (sym e))
bit-added zero (suc zero) c true la lb e n = absurd (n (sym e))
bit-added zero (suc zero) c false la lb e n = (refl, rw e refl)
bit-added zero (suc (suc b)) c t la lb e n = absurd (omega arith)
bit-added (suc zero) zero c true la lb e n = absurd (n (sym e))
bit-added (suc zero) zero c false la lb e n = absurd (n (sym e))
bit-added (suc zero) (suc zero) c true la lb e n = absurd (n (sym e))
bit-added (suc zero) (suc zero) c false la lb e n = absurd (n (sym e))
bit-added (suc zero) (suc (suc b)) c t la lb e n = absurd (omega arith)
bit-added (suc (suc a)) b c t la lb e n = absurd (omega arith)

pub has-added : (new old others : List Chunk) (except : Option ℕ) (k j : ℕ) → j < 64 → JoinedAt new old others except k j
    → bit_at (bits_of old k) j ≢ bit_at (bits_of new k) j → Added old new
has-added new old others except k j l h n =
    let word_is : (k * 64 + j) / 64 ≡ k = omega (arith, l) in
    let bit_is : (k * 64 + j) % 64 ≡ j = omega (arith, l) in
    let both = bit-added (bit_at (bits_of old k) j) (bit_at (bits_of others k) j) (bit_at (bits_of new k) j) (is_that except (k * 64 + j))
    (bit_at-lt (bits_of old k) j) (bit_at-lt (bits_of others k) j) h n in
    record { number = k * 64 + j; out = rw (word_is, bit_is) both.0; inside = rw (word_is, bit_is) both.1 }

-- one chunk more
module _ (old cur new others : List Chunk) (except : Option ℕ) (i bits : ℕ) (c : Chunk) (ordered : AreOrdered others)
    (there : slice_get others i ≡ Some c)
    (joined : (k j : ℕ) → j < 64 → JoinedAt cur old (take i others) except k j)
    (here : bits_of new c.at ≡ bit_or (bits_of cur c.at) bits) (elsewhere : (k : ℕ) → k ≢ c.at → bits_of new k ≡ bits_of cur k)
    (bits_are : (j : ℕ) → j < 64 → bit_at bits j ≡ (if is_that except (c.at * 64 + j) then 0 else bit_at c.bits j)) where
  -- the chunk was not joined yet
  as-before : (j : ℕ) → j < 64 → bit_at (bits_of cur c.at) j ≡ bit_at (bits_of old c.at) j
  as-before j l =
      let none : bit_at (bits_of (take i others) c.at) j ≡ 0 = ap (λ n. bit_at n j) (take-none c 0 others i ordered there) ∙ bit_at-zero j in
      subst (λ x. bit_at (bits_of cur c.at) j ≡ max (bit_at (bits_of old c.at) j) (if is_that except (c.at * 64 + j) then 0 else x)) none (joined c.at j l)
      ∙ sym (no-more (bit_at (bits_of old c.at) j) (is_that except (c.at * 64 + j)))

  step-joined-by : (k j : ℕ) → j < 64 → JoinedAt new old (take (suc i) others) except k j
  step-joined-by k j l = elim (eqb_tells k c.at) [
    | inl p ↦
        let e : JoinedAt new old (take (suc i) others) except c.at j =
        rw (here, bit_at_or, bits_are j l, as-before j l, take-here c 0 others i ordered there) refl in
        subst (λ x. JoinedAt new old (take (suc i) others) except x j) (sym p.1) e
    | inr p ↦ rw (elsewhere k p.1, take-others c others i k there p.1) (joined k j l)
  ]

  pub step-joined : (k j : ℕ) → j < 64 → JoinedAt new old (take (i + 1) others) except k j
  step-joined k j l =
      let one : suc i ≡ i + 1 = omega arith in subst (λ n. JoinedAt new old (take n others) except k j) one (step-joined-by k j l)

  pub step-more : (a b : Bool) → (a ≡ true → (k j : ℕ) × (j < 64) × (bit_at (bits_of old k) j ≢ bit_at (bits_of cur k) j))
      → (b ≡ true → (j : ℕ) × (j < 64) × (bit_at (bits_of cur c.at) j ≢ bit_at (bits_of new c.at) j)) → (a || b) ≡ true
      → (k j : ℕ) × (j < 64) × (bit_at (bits_of old k) j ≢ bit_at (bits_of new k) j)
  step-more true b before now e =
      let h = before refl in
      elim (eqb_tells h.0 c.at) [
        | inl p ↦
            let was : bit_at (bits_of cur h.0) h.1 ≡ bit_at (bits_of old h.0) h.1 =
            subst (λ x. bit_at (bits_of cur x) h.1 ≡ bit_at (bits_of old x) h.1) (sym p.1) (as-before h.1 h.2) in
            absurd (h.3 (sym was))
        | inr p ↦ (h.0, h.1, h.2, rw (elsewhere h.0 p.1) h.3)
      ]
  step-more false true before now e =
      let h = now refl in (c.at, h.0, h.1, rw (← as-before h.0 h.1) h.2)
  step-more false false before now e = cc

pub step-same : (a b : Bool) (old cur new : List Chunk) → (a ≡ false → cur ≡ old) → (b ≡ false → new ≡ cur) → (a || b) ≡ false → new ≡ old
step-same true b old cur new h k e = cc
step-same false true old cur new h k e = cc
step-same false false old cur new h k e = k refl ∙ h refl

-- the list of the numbers in a set
module _ (words : List Chunk) where
  pub below-nil : members_below words 0 ≡ []
  unfolding members_below
  below-nil = refl

in-append : (v : ℕ) (xs ys : List ℕ) → is_in v (xs ++ ys) ≡ (is_in v xs || is_in v ys)
in-append v [] ys = refl
in-append v (x ∷ xs) ys = rw (in-append v xs ys) (sym (or_assoc (x == v) (is_in v xs) (is_in v ys)))

or-false : (b : Bool) → (b || false) ≡ b
or-false true = refl
or-false false = refl

here-too : (v n : ℕ) (here there : Bool) → (n == v) ≡ true → there ≡ here → ((false && there) || is_in v (if here then n ∷ [] else [])) ≡ (true && there)
here-too v n true there e s = rw (e, s) refl
here-too v n false there e s = rw s refl

not-here : (v n : ℕ) (here : Bool) → (n == v) ≡ false → is_in v (if here then n ∷ [] else []) ≡ false
not-here v n true e = rw e refl
not-here v n false e = refl

one-more : (v n : ℕ) (here there : Bool) → (n ≡ v → there ≡ here) → ((ltb v n && there) || is_in v (if here then n ∷ [] else [])) ≡ (ltb v (suc n) && there)
one-more v n here there same = elim (eqb_tells n v) [
  | inl p ↦
      let q = p.1 in
      rw (le-ltb v n (omega (arith, q)), lt-ltb v (suc n) (omega (arith, q))) (here-too v n here there p.0 (same q))
  | inr p ↦
      let q = p.1 in
      rw (not-here v n here p.0, or-false) (elim (le-or-lt n v) [
        | inl l ↦ rw (le-ltb v n l, le-ltb v (suc n) (omega (arith, l, q))) refl
        | inr l ↦ rw (lt-ltb v n l, lt-ltb v (suc n) (omega (arith, l))) refl
      ])
]

in-below : (words : List Chunk) (n v : ℕ) → is_in v (members_below words n) ≡ (ltb v n && has_bit words v)
unfolding members_below
in-below words zero v = rw (le-ltb v 0 (omega arith)) refl
in-below words (suc n) v =
    rw (in-append v (members_below words n) (if has_bit words n then n ∷ [] else []), in-below words n v)
    (one-more v n (has_bit words n) (has_bit words v) (λ e. ap (has_bit words) (sym e)))

-- a bit past the last number is 0
none-past : (words : List Chunk) → AreOrdered words → (v : ℕ) → 2 ^ 32 ≤ v → has_bit words v ≡ false
none-past words o v l =
    let far : 2 ^ 26 ≤ v / 64 = omega (arith, l) in
    let none = bits-late 0 words (v / 64) o far in rw (none, bit_at-zero) refl

-- a number is in the list where its bit is 1
pub in-members : (words : List Chunk) → AreOrdered words → (v : ℕ) → is_in v (members words) ≡ has_bit words v
in-members words o v = rw in-below (elim (le-or-lt (2 ^ 32) v) [
  | inl l ↦ rw (le-ltb v (2 ^ 32) l, none-past words o v l) refl
  | inr l ↦ rw (lt-ltb v (2 ^ 32) l) refl
])

-- it is ascending
all-less : ℕ → List ℕ → Type 0
all-less n [] = Unit {0}
all-less n (x ∷ xs) = (x < n) × all-less n xs

all-less-more : (n m : ℕ) (xs : List ℕ) → n ≤ m → all-less n xs → all-less m xs
unfolding all-less
all-less-more n m [] l h = tt
all-less-more n m (x ∷ xs) l h = (let k = h.0 in omega (arith, k, l), all-less-more n m xs l h.1)

push-less : (n m : ℕ) (xs : List ℕ) → n < m → all-less m xs → all-less m (xs ++ n ∷ [])
unfolding all-less
push-less n m [] l h = (l, tt)
push-less n m (x ∷ xs) l h = (h.0, push-less n m xs l h.1)

push-ascends : (n : ℕ) (xs : List ℕ) → all-less n xs → IsAscending xs → IsAscending (xs ++ n ∷ [])
unfolding all-less
push-ascends n [] l a = (tt, tt)
push-ascends n (x ∷ []) l a = (l.0, (tt, tt))
push-ascends n (x ∷ y ∷ ys) l a = (a.0, push-ascends n (y ∷ ys) l.1 a.1)

below-less-by : (b : Bool) (n : ℕ) (xs : List ℕ) → all-less n xs → all-less (suc n) (xs ++ (if b then n ∷ [] else []))
below-less-by true n xs h = push-less n (suc n) xs (omega arith) (all-less-more n (suc n) xs (omega arith) h)
below-less-by false n xs h = rw append-nil (all-less-more n (suc n) xs (omega arith) h)

below-less : (words : List Chunk) (n : ℕ) → all-less n (members_below words n)
unfolding members_below all-less
below-less words zero = tt
below-less words (suc n) = below-less-by (has_bit words n) n (members_below words n) (below-less words n)

below-ascends-by : (b : Bool) (n : ℕ) (xs : List ℕ) → all-less n xs → IsAscending xs → IsAscending (xs ++ (if b then n ∷ [] else []))
below-ascends-by true n xs l a = push-ascends n xs l a
below-ascends-by false n xs l a = rw append-nil a

below-ascends : (words : List Chunk) (n : ℕ) → IsAscending (members_below words n)
unfolding members_below
below-ascends words zero = tt
below-ascends words (suc n) = below-ascends-by (has_bit words n) n (members_below words n) (below-less words n) (below-ascends words n)

pub members-ascend : (words : List Chunk) → IsAscending (members words)
members-ascend words = below-ascends words (2 ^ 32)

-- how many there are
count-by : (b : Bool) → ℕ
count-by true = 1
count-by false = 0

length-by : (b : Bool) (n : ℕ) (xs : List ℕ) → length (xs ++ (if b then n ∷ [] else [])) ≡ length xs + count-by b
unfolding count-by
length-by true n xs = simp length-append refl
length-by false n xs = rw append-nil (omega arith)

at-most-one : (b : Bool) → count-by b ≤ 1
unfolding count-by
at-most-one true = omega arith
at-most-one false = omega arith

below-few : (words : List Chunk) (n : ℕ) → length (members_below words n) ≤ n
unfolding members_below count-by
below-few words zero = omega arith
below-few words (suc n) =
    let l = below-few words n in
    let m = length-by (has_bit words n) n (members_below words n) in
    let one = at-most-one (has_bit words n) in omega (arith, l, m, one)

pub members-few : (words : List Chunk) → length (members words) ≤ 2 ^ 32
members-few words = below-few words (2 ^ 32)

-- no number is in the set from n on
below-same : (words : List Chunk) (n k : ℕ) → ((v : ℕ) → n ≤ v → v < n + k → has_bit words v ≡ false) → members_below words (n + k) ≡ members_below words n
unfolding members_below
below-same words n zero h = rw add-zero refl
below-same words n (suc k) h =
    rw (add-suc, h (n + k) (omega arith) (omega arith), append-nil) (below-same words n k (λ v a b. h v a (omega (arith, b))))

-- a set that has all numbers of another has as many, and more where it has one more
less-by : (a b : Bool) → (a ≡ true → b ≡ true) → count-by a ≤ count-by b
unfolding count-by
less-by true b h = rw (h refl) (omega arith)
less-by false b h = omega arith

below-length : (words : List Chunk) (n : ℕ) → length (members_below words (suc n)) ≡ length (members_below words n) + count-by (has_bit words n)
unfolding members_below
below-length words n = length-by (has_bit words n) n (members_below words n)

module _ (old new : List Chunk) (grows : (v : ℕ) → has_bit old v ≡ true → has_bit new v ≡ true) where
  below-grows : (n : ℕ) → length (members_below old n) ≤ length (members_below new n)
  below-grows zero = rw (below-nil old, below-nil new) (omega arith)
  below-grows (suc n) =
      let l = below-grows n in
      let one = less-by (has_bit old n) (has_bit new n) (grows n) in
      let a = below-length old n in let b = below-length new n in omega (arith, l, one, a, b)

  below-more-by : (v n : ℕ) → has_bit old v ≡ false → has_bit new v ≡ true → v < n → length (members_below old n) < length (members_below new n)
  unfolding count-by
  below-more-by v zero out inside l = absurd (omega arith)
  below-more-by v (suc n) out inside l = elim (eqb_tells v n) [
    | inl p ↦
        let q = p.1 in
        let k = below-grows n in
        let a = below-length old n in let b = below-length new n in
        let none : count-by (has_bit old n) ≡ 0 = subst (λ x. count-by (has_bit old x) ≡ 0) q (rw out refl) in
        let one : count-by (has_bit new n) ≡ 1 = subst (λ x. count-by (has_bit new x) ≡ 1) q (rw inside refl) in
        omega (arith, k, a, b, none, one)
    | inr p ↦
        let q = p.1 in
        let k = below-more-by v n out inside (omega (arith, q, l)) in
        let one = less-by (has_bit old n) (has_bit new n) (grows n) in
        let a = below-length old n in let b = below-length new n in omega (arith, k, one, a, b)
  ]

pub or-left : (a b : Bool) → a ≡ true → (a || b) ≡ true
or-left true b e = refl
or-left false b e = cc

-- and so a set to which a number was added has more
pub members-more : (old new : List Chunk) → AreOrdered new → ((v : ℕ) → has_bit old v ≡ true → has_bit new v ≡ true) → Added old new
    → length (members old) < length (members new)
members-more old new o grows a = elim (le-or-lt (2 ^ 32) a.number) [
  | inl l ↦ let none = none-past new o a.number l in let yes = a.inside in cc
  | inr l ↦ below-more-by old new grows a.number (2 ^ 32) a.out a.inside l
]

-- the bit of a number
pub bit-put : (old new : List Chunk) (v : ℕ) → bits_of new (v / 64) ≡ bit_or (bits_of old (v / 64)) (1 * 2 ^ (v % 64) % 2 ^ 64)
    → ((k : ℕ) → k ≢ v / 64 → bits_of new k ≡ bits_of old k) → (w : ℕ) → has_bit new w ≡ (v == w || has_bit old w)
bit-put old new v here elsewhere w = elim (eqb_tells v w) [
  | inl p ↦
      let within : v % 64 < 64 = omega arith in
      let set = bit_at_set_same w64 (bits_of old (v / 64)) (v % 64) within in
      let one : has_bit new v ≡ true = rw (here, set) refl in
      rw p.0 (subst (λ x. has_bit new x ≡ true) p.1 one)
  | inr p ↦ rw p.0 (elim (eqb_tells (w / 64) (v / 64)) [
    | inl q ↦
        let n = p.1 in let m = q.1 in
        let within : v % 64 < 64 = omega arith in
        let other : w % 64 ≢ v % 64 = λ s. n (omega (arith, s, m)) in
        let set = bit_at_set_other w64 (bits_of old (v / 64)) (v % 64) within (w % 64) other in
        rw (m, here, set) refl
    | inr q ↦ rw (elsewhere (w / 64) q.1) refl
  ])
]

-- bits are put at the place of a chunk
module _ (old : List Chunk) (i at bits : ℕ) (o : AreOrdered old) where
  pub put-there : (was new : ℕ) → new ≡ bit_or was bits → slice_get old i ≡ Some (record { at = at; bits = was })
      → bits_of (slice_set old i (record { at = at; bits = new })) at ≡ bit_or (bits_of old at) bits
  put-there was new is e =
      set-here at was new 0 old i o e
      ∙ is ∙ ap (λ n. bit_or n bits) (sym (bits-here 0 old i (record { at = at; bits = was }) o e))

  pub put-new : AreBefore old i at → ((c : Chunk) → slice_get old i ≡ Some c → at < c.at) → at < 2 ^ 26
      → bits_of (insert old i (record { at = at; bits = bits })) at ≡ bit_or (bits_of old at) bits
  put-new b n l =
      put-here (record { at = at; bits = bits }) l old i b
      ∙ sym (ap (λ n. bit_or n bits) (bits-none 0 old i at o b n) ∙ or_zero_l bits)

-- the list of numbers, chunk by chunk
pub inside-nil : (c : Chunk) → inside c 0 ≡ []
unfolding inside
inside-nil c = refl

pub inside-more : (c : Chunk) (n : ℕ) → inside c (n + 1) ≡ inside c n ++ (if bit_at c.bits n == 1 then (c.at * 64 + n) ∷ [] else [])
unfolding inside
inside-more c n = rw add-one refl

pub below-inside : (words : List Chunk) (c : Chunk) → bits_of words c.at ≡ c.bits → (n : ℕ) → n ≤ 64
    → members_below words (c.at * 64 + n) ≡ members_below words (c.at * 64) ++ inside c n
unfolding members_below inside
below-inside words c h zero l = rw (add-zero, append-nil) refl
below-inside words c h (suc n) l =
    let rest = below-inside words c h n (omega (arith, l)) in
    let at_is : (c.at * 64 + n) / 64 ≡ c.at = omega (arith, l) in
    let bit_is : (c.at * 64 + n) % 64 ≡ n = omega (arith, l) in
    let has_is : has_bit words (c.at * 64 + n) ≡ (bit_at c.bits n == 1) = rw (at_is, bit_is, h) refl in
    rw (add-suc, has_is, rest) (append_assoc (members_below words (c.at * 64)) (inside c n) (if bit_at c.bits n == 1 then (c.at * 64 + n) ∷ [] else []))

-- no chunk is at these numbers
none-between : (words : List Chunk) (i v to : ℕ) → AreOrdered words → AreBefore words i (v / 64) → IsNotBefore words i to → v < to * 64 → has_bit words v ≡ false
none-between words i v to o b n l =
    let none = bits-none 0 words i (v / 64) o b (λ c e. let h = n c e in omega (arith, h, l)) in rw (none, bit_at-zero) refl

pub below-first : (words : List Chunk) (to : ℕ) → AreOrdered words → IsNotBefore words 0 to → members_below words (to * 64) ≡ []
below-first words to o n =
    let start : to * 64 ≡ 0 + to * 64 = omega arith in
    rw start (below-same words 0 (to * 64) (λ v lo hi. none-between words 0 v to o (before-none words (v / 64)) n (omega (arith, hi))) ∙ below-nil words)

-- one chunk more was listed
pub below-next : (words : List Chunk) (i : ℕ) (c : Chunk) (o : AreOrdered words) (e : slice_get words i ≡ Some c) (listed : List ℕ)
    → ((to : ℕ) → AreBefore words i to → IsNotBefore words i to → listed ≡ members_below words (to * 64))
    → (to : ℕ) → AreBefore words (i + 1) to → IsNotBefore words (i + 1) to → listed ++ inside c 64 ≡ members_below words (to * 64)
below-next words i c o e listed h to b n =
    let one : i + 1 ≡ suc i = omega arith in
    let before = prefix-before c 0 words i o e in
    let later = before-there c words i to (subst (λ m. AreBefore words m to) one b) e in
    let first = h c.at before (λ d f. let s : c ≡ d = cc in subst (λ x. c.at ≤ x.at) s (omega arith)) in
    let start : to * 64 ≡ (c.at * 64 + 64) + (to * 64 - (c.at * 64 + 64)) = omega (arith, later) in
    let rest = below-same words (c.at * 64 + 64) (to * 64 - (c.at * 64 + 64)) (λ v lo hi.
    none-between words (suc i) v to o
    (before-more words i (v / 64) c (before-later words i c.at (v / 64) before (omega (arith, lo))) e (omega (arith, lo)))
    (subst (λ m. IsNotBefore words m to) one n) (omega (arith, hi, later))) in
    ap (λ xs. xs ++ inside c 64) first ∙ sym (below-inside words c (bits-here 0 words i c o e) 64 (omega arith)) ∙ sym rest
    ∙ ap (members_below words) (sym start)

pub below-all : (words : List Chunk) (i : ℕ) (o : AreOrdered words) (listed : List ℕ) → i ≡ length words
    → ((to : ℕ) → AreBefore words i to → IsNotBefore words i to → listed ≡ members_below words (to * 64)) → listed ≡ members_below words (2 ^ 26 * 64)
below-all words i o listed e h = h (2 ^ 26) (all-before 0 words i o) (λ c f. absurd (none-at-end words c (subst (λ n. slice_get words n ≡ Some c) e f)))

bit-none : (v : ℕ) → has_bit [] v ≡ false
bit-none v = rw (bit_at-zero (v % 64)) refl

pub members-none : members [] ≡ []
members-none = let zero_is : 2 ^ 32 ≡ 0 + 2 ^ 32 = omega arith in ap (members_below []) zero_is ∙ below-same [] 0 (2 ^ 32) (λ v lo hi. bit-none v) ∙ below-nil []
