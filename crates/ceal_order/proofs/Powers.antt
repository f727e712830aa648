-- Powers of two and three: ranges of labels, and how many links are few in them.
use Rattle.std.proofs.Common.{◌≡◌, ℕ, zero, suc, inl, inr, ◌+◌, ◌*◌, ◌<◌, ◌≤◌, ◌^◌, ◌/◌, sym, ap, ◌∙◌, subst, arith, lit≤, add-suc, ◌-◌}
use Rattle.std.proofs.Math.Nat.{pow-suc, pow-le-pow_right, le_of_mul-le-mul_right, mul-le-mul_left, mul-le-mul_right, mul-div-le, div-lt_iff_lt-mul}
use Rattle.std.proofs.lemmas.Nat.{pow-add, pow_pos}
use Rattle.std.proofs.lemmas.Bool.{cases_lt}

step : (p q : ℕ) → 2 * p ≤ q * q → 2 * (p * 3) ≤ q * 2 * (q * 2)
step p q h = omega arith

-- twice a power of three is at most the square of that of two, from the third on
pub twice : (j : ℕ) → 2 * 3 ^ (3 + j) ≤ 2 ^ (3 + j) * 2 ^ (3 + j)
twice zero = lit≤ tt
twice (suc j) =
    let before : 2 * 3 ^ (3 + j) ≤ 2 ^ (3 + j) * 2 ^ (3 + j) = twice j in
    rw (add-suc, pow-suc 3 (3 + j), pow-suc 2 (3 + j)) (step (3 ^ (3 + j)) (2 ^ (3 + j)) before)

-- in a sparse range there is room for twice as many
pub room : (m a b : ℕ) → 0 < a → m * a ≤ b → 2 * b ≤ a * a → 2 * m ≤ a
room m a b some sparse wide = let all : 2 * m * a ≤ a * a = omega arith in le_of_mul-le-mul_right {m = 2 * m} {n = a} {k = a} all some

-- the gap between labels in a sparse range
pub gap_two : (m a : ℕ) → 0 < m → 2 * m ≤ a → 2 ≤ a / m
gap_two m a some wide = elim (cases_lt (a / m) 2) [
  | inl small ↦ let one : a / m ≤ 1 = omega arith in let most : m * (a / m) ≤ m * 1 = mul-le-mul_left m one in absurd (omega arith)
  | inr wide_enough ↦ wide_enough
]

-- a gap of at least two in each sparse range, from the third on
pub wide_gap : (m bits : ℕ) → 3 ≤ bits → 0 < m → m * 2 ^ bits ≤ 3 ^ bits → 2 ≤ 2 ^ bits / m
wide_gap m bits from some sparse =
    let is : 3 + (bits - 3) ≡ bits = omega arith in
    let double : 2 * 3 ^ bits ≤ 2 ^ bits * 2 ^ bits = subst (λ (k : ℕ). 2 * 3 ^ k ≤ 2 ^ k * 2 ^ k) is (twice (bits - 3)) in
    gap_two m (2 ^ bits) some (room m (2 ^ bits) (3 ^ bits) (pow_pos bits) sparse double)

pub gaps_fit : (m size : ℕ) → m * (size / m) ≤ size
gaps_fit m size = mul-div-le size m

-- a power of three that 128 bits hold
pub three_fits : (bits : ℕ) → bits ≤ 62 → 3 ^ bits < 2 ^ 128
three_fits bits few =
    let le : 3 ^ bits ≤ 3 ^ 62 = pow-le-pow_right (lit≤ tt) few in
    omega arith

pub two_fits : (bits : ℕ) → bits ≤ 62 → 2 ^ bits ≤ 2 ^ 62
two_fits bits few = pow-le-pow_right (lit≤ tt) few

-- an aligned range of labels ends within all labels
pub aligned : (label bits : ℕ) → bits ≤ 62 → label < 2 ^ 62 → label / 2 ^ bits * 2 ^ bits + 2 ^ bits ≤ 2 ^ 62
aligned label bits few low =
    let is : 62 - bits + bits ≡ 62 = omega arith in
    let parts : 2 ^ (62 - bits) * 2 ^ bits ≡ 2 ^ 62 = sym (pow-add 2 (62 - bits) bits) ∙ ap (λ (k : ℕ). 2 ^ k) is in
    let low' : label < 2 ^ (62 - bits) * 2 ^ bits = rw parts low in
    let less : label / 2 ^ bits < 2 ^ (62 - bits) = (div-lt_iff_lt-mul {k = 2 ^ bits} {x = label} {y = 2 ^ (62 - bits)} (pow_pos bits)).1 low' in
    let one : label / 2 ^ bits + 1 ≤ 2 ^ (62 - bits) = omega arith in
    let all : (label / 2 ^ bits + 1) * 2 ^ bits ≤ 2 ^ (62 - bits) * 2 ^ bits = mul-le-mul_right (2 ^ bits) one in
    let all' : (label / 2 ^ bits + 1) * 2 ^ bits ≤ 2 ^ 62 = rw parts at all in
    omega arith
