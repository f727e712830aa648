-- A number that is scrambled can be had back, so no two numbers are scrambled into one.
use Rattle.std.proofs.Common.{◌≡◌, ℕ, ◌+◌, ◌*◌, ◌/◌, ◌%◌, ◌<◌, ◌^◌, bit_xor, refl, sym, ap, ◌∙◌, arith}
use Rattle.std.specs.Int.Bits.{xor_self, xor_zero_r, xor_assoc}
use Rattle.std.proofs.lemmas.Nat.{xor_shr, xor_lt, mul-mod_first, mod-mul-add}
use Rattle.ceal_base.specs.Hashing.{xor_shifted, scrambled, mixed}

-- ---- shifts

-- what occurs twice goes
twice : (a b : ℕ) → bit_xor (bit_xor a b) b ≡ a
twice a b = xor_assoc a b b ∙ ap (bit_xor a) (xor_self b) ∙ xor_zero_r a

pairs : (x s t : ℕ) → bit_xor (bit_xor (bit_xor x s) (bit_xor s t)) t ≡ x
pairs x s t = ap (λ (k : ℕ). bit_xor k t) (sym (xor_assoc (bit_xor x s) s t) ∙ ap (λ (k : ℕ). bit_xor k t) (twice x s)) ∙ twice x t

-- the number before a shift, from the one after it, where no more than twice the bits of the shift are left
abbrev before : ℕ → ℕ → ℕ
before bits y = bit_xor (bit_xor y (y / 2 ^ bits)) (y / 2 ^ bits / 2 ^ bits)

had_back : (bits x : ℕ) → x / 2 ^ bits / 2 ^ bits / 2 ^ bits ≡ 0 → before bits (xor_shifted x bits) ≡ x
had_back bits x none =
    let s = x / 2 ^ bits in
    let t = s / 2 ^ bits in
    let once : bit_xor x s / 2 ^ bits ≡ bit_xor s t = xor_shr x s bits in
    let again : bit_xor s t / 2 ^ bits ≡ t = xor_shr s t bits ∙ ap (bit_xor t) none ∙ xor_zero_r t in
    let first : bit_xor (bit_xor (bit_xor x s) (bit_xor x s / 2 ^ bits)) (bit_xor x s / 2 ^ bits / 2 ^ bits)
    ≡ bit_xor (bit_xor (bit_xor x s) (bit_xor s t)) (bit_xor s t / 2 ^ bits)
    = ap (λ (k : ℕ). bit_xor (bit_xor (bit_xor x s) k) (k / 2 ^ bits)) once in
    first ∙ ap (bit_xor (bit_xor (bit_xor x s) (bit_xor s t))) again ∙ pairs x s t

apart_shifted : (bits m n : ℕ) → m / 2 ^ bits / 2 ^ bits / 2 ^ bits ≡ 0 → n / 2 ^ bits / 2 ^ bits / 2 ^ bits ≡ 0
    → xor_shifted m bits ≡ xor_shifted n bits → m ≡ n
apart_shifted bits m n small also same = sym (had_back bits m small) ∙ ap (before bits) same ∙ had_back bits n also

-- ---- products

-- a product by a number that another one undoes
undone : (c d k x : ℕ) → c * d ≡ k * 2 ^ 64 + 1 → x < 2 ^ 64 → ((x * c) % 2 ^ 64 * d) % 2 ^ 64 ≡ x
undone c d k x is small =
    let one : x * c * d ≡ x * k * 2 ^ 64 + x = omega (arith, ap (λ (p : ℕ). x * p) is) in
    mul-mod_first (x * c) d (2 ^ 64) ∙ ap (λ (p : ℕ). p % 2 ^ 64) one ∙ mod-mul-add (x * k) (2 ^ 64) x small

apart_times : (c d k m n : ℕ) → c * d ≡ k * 2 ^ 64 + 1 → m < 2 ^ 64 → n < 2 ^ 64 → (m * c) % 2 ^ 64 ≡ (n * c) % 2 ^ 64 → m ≡ n
apart_times c d k m n is small also same =
    sym (undone c d k m is small) ∙ ap (λ (p : ℕ). (p * d) % 2 ^ 64) same ∙ undone c d k n is also

-- ---- all steps

apart_scrambled : (m n : ℕ) → m < 2 ^ 64 → n < 2 ^ 64 → scrambled m ≡ scrambled n → m ≡ n
apart_scrambled m n small also same =
    let first = xor_shifted m 30 in
    let first' = xor_shifted n 30 in
    let product = (first * 13787848793156543929) % 2 ^ 64 in
    let product' = (first' * 13787848793156543929) % 2 ^ 64 in
    let second = xor_shifted product 27 in
    let second' = xor_shifted product' 27 in
    let low : first < 2 ^ 64 = xor_lt 64 m (m / 2 ^ 30) small (omega arith) in
    let low' : first' < 2 ^ 64 = xor_lt 64 n (n / 2 ^ 30) also (omega arith) in
    let lower : second < 2 ^ 64 = xor_lt 64 product (product / 2 ^ 27) (omega arith) (omega arith) in
    let lower' : second' < 2 ^ 64 = xor_lt 64 product' (product' / 2 ^ 27) (omega arith) (omega arith) in
    let thirds = apart_shifted 31 ((second * 10723151780598845931) % 2 ^ 64) ((second' * 10723151780598845931) % 2 ^ 64) (omega arith) (omega arith) same in
    let seconds = apart_times 10723151780598845931 3573116690164977347 2077064247507883091 second second' refl lower lower' thirds in
    let products = apart_shifted 27 product product' (omega arith) (omega arith) seconds in
    let firsts = apart_times 13787848793156543929 10871156337175269513 8125545580553827436 first first' refl low low' products in
    apart_shifted 30 m n (omega arith) (omega arith) firsts

pub apart : (m n : ℕ) → m < 2 ^ 64 → n < 2 ^ 64 → mixed 0 m ≡ mixed 0 n → m ≡ n
apart m n small also same =
    let is : (0 + m) % 2 ^ 64 ≡ m = omega arith in
    let is' : (0 + n) % 2 ^ 64 ≡ n = omega arith in
    apart_scrambled m n small also (sym (ap scrambled is) ∙ same ∙ ap scrambled is')
