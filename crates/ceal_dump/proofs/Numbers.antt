-- Numbers are read back from their decimals.
use Rattle.std.proofs.Common.{◌≡◌, ℕ, suc, ◌+◌, ◌*◌, ◌/◌, ◌%◌, ◌^◌, ◌<◌, ◌≤◌, ◌==◌, Bool, true, false, pos, negsuc, List, [], ◌∷◌, ◌++◌, refl, ap, ◌∙◌, append_assoc, arith}
use Rattle.std.specs.Prelude.{nat_lt}
use Rattle.std.specs.Fmt.{decimal, signed_decimal}
use Rattle.std.proofs.lemmas.Bool.Decides.{nat_tests}
use Rattle.std.proofs.lemmas.Fmt.{decimal_by_steps}
use Rattle.ceal_base.specs.Digits.{is_digit}
use Rattle.ceal_dump.specs.Reading.{first_byte, with_digit, number_from, number_at, small, small_at, int_at}

-- the bytes do not continue with a digit
abbrev pub Ends : List ℕ → Type 0
Ends bs = is_digit (first_byte bs) ≡ false

digit-is : (d : ℕ) → d < 10 → is_digit (48 + d) ≡ true
digit-is d h = grind (arith, nat_tests)

digit-added : (m d : ℕ) → m < 2 ^ 60 → d < 10 → with_digit m (48 + d) ≡ 10 * m + d
digit-added m d h k =
    let e : nat_lt m (2 ^ 60) ≡ true = grind (arith, nat_tests, h) in
    rw e (omega (arith, k))

step : (m d : ℕ) (more : List ℕ) → m < 2 ^ 60 → d < 10 → number_from m ((48 + d) ∷ more) ≡ number_from (10 * m + d) more
unfolding number_from
step m d more h k = rw (digit-is d k, digit-added m d h k) refl

pub number-onto : (n : ℕ) → n < 2 ^ 64 → n ≤ 2 ^ 63 → (more : List ℕ) → number_from 0 (decimal n ++ more) ≡ number_from n more
number-onto n small few more = decimal_by_steps Onto one next n small few more
  where
    Onto : ℕ → List ℕ → Type 0
    Onto m ds = m ≤ 2 ^ 63 → (more : List ℕ) → number_from 0 (ds ++ more) ≡ number_from m more

    one : (m : ℕ) → m < 10 → Onto m ((48 + m) ∷ [])
    one m h k more = let e : 10 * 0 + m ≡ m = omega arith in step 0 m more (omega arith) h ∙ ap (λ m. number_from m more) e

    next : (m : ℕ) (ds : List ℕ) → 10 ≤ m → Onto (m / 10) ds → Onto m (ds ++ ((48 + m % 10) ∷ []))
    next m ds h ih k more =
        let e : 10 * (m / 10) + m % 10 ≡ m = omega arith in
        ap (number_from 0) (append_assoc ds ((48 + m % 10) ∷ []) more)
        ∙ (ih (omega (arith, k)) ((48 + m % 10) ∷ more) ∙ (step (m / 10) (m % 10) more (omega (arith, k)) (omega arith) ∙ ap (λ m. number_from m more) e))

number-end : (n : ℕ) (more : List ℕ) → Ends more → number_from n more ≡ (n, more)
unfolding number_from
number-end n [] h = refl
number-end n (b ∷ bs) h = rw h refl

pub number-back : (n : ℕ) (more : List ℕ) → n ≤ 2 ^ 63 → Ends more → number_at (decimal n ++ more) ≡ (n, more)
unfolding number_at
number-back n more h e = number-onto n (omega (arith, h)) h more ∙ number-end n more e

pub small-back : (n : ℕ) (more : List ℕ) → n < 2 ^ 32 → Ends more → small_at (decimal n ++ more) ≡ (n, more)
unfolding small_at
small-back n more h e =
    let k : nat_lt n (2 ^ 32) ≡ true = grind (arith, nat_tests, h) in
    rw (number-back n more (omega (arith, h)) e, k) refl

-- a decimal begins with a digit
pub record Begins (ds : List ℕ) : Type 0 where
  pub first : ℕ
  pub rest : List ℕ
  pub is : ds ≡ first ∷ rest
  pub low : 48 ≤ first
  pub high : first ≤ 57

pub decimal-begins : (n : ℕ) → n < 2 ^ 64 → Begins (decimal n)
decimal-begins n h = decimal_by_steps (λ m ds. Begins ds) one next n h
  where
    one : (m : ℕ) → m < 10 → Begins ((48 + m) ∷ [])
    one m h = record { first = 48 + m; rest = []; is = refl; low = omega arith; high = omega (arith, h) }

    next : (m : ℕ) (ds : List ℕ) → 10 ≤ m → Begins ds → Begins (ds ++ ((48 + m % 10) ∷ []))
    next m ds h b = record { first = b.first; rest = b.rest ++ ((48 + m % 10) ∷ []); is = ap (λ ds. ds ++ ((48 + m % 10) ∷ [])) b.is; low = b.low; high = b.high }

-- its first byte is no other one
pub first-other : (n : ℕ) (more : List ℕ) (b : ℕ) → n < 2 ^ 64 → b < 48 → (first_byte (decimal n ++ more) == b) ≡ false
first-other n more b h k = let d = decimal-begins n h in rw d.is (grind (arith, nat_tests, d.low, k))

pub first-above : (n : ℕ) (more : List ℕ) (b : ℕ) → n < 2 ^ 64 → 57 < b → (first_byte (decimal n ++ more) == b) ≡ false
first-above n more b h k = let d = decimal-begins n h in rw d.is (grind (arith, nat_tests, d.high, k))

pub positive-back : (n : ℕ) (more : List ℕ) → n < 2 ^ 63 → Ends more → int_at (signed_decimal (pos n) ++ more) ≡ (pos n, more)
unfolding int_at
positive-back n more h e =
    let k : nat_lt n (2 ^ 63) ≡ true = grind (arith, nat_tests, h) in
    rw (first-other n more 45 (omega (arith, h)) (omega arith), number-back n more (omega (arith, h)) e, k) refl

pub negative-back : (n : ℕ) (more : List ℕ) → n < 2 ^ 63 → Ends more → int_at (signed_decimal (negsuc n) ++ more) ≡ (negsuc n, more)
unfolding int_at
negative-back n more h e =
    let k : nat_lt n (2 ^ 63) ≡ true = grind (arith, nat_tests, h) in
    rw (number-back (suc n) more (omega (arith, h)) e, k) refl

-- what is read is in range
pub small-range : (bs : List ℕ) → (small_at bs).0 < 2 ^ 32
unfolding small_at
small-range bs = go (number_at bs).0 (nat_lt (number_at bs).0 (2 ^ 32)) refl
  where
    go : (n : ℕ) (t : Bool) → nat_lt n (2 ^ 32) ≡ t → small n < 2 ^ 32
    go n true e = rw e (grind (arith, nat_tests, e))
    go n false e = rw e (omega arith)
