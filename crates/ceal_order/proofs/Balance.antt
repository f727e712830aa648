-- A balanced tree is about as deep as the logarithm of the number of its forks.
use Rattle.std.specs.Prelude.{max}
use Rattle.std.proofs.Common.{◌≡◌, ℕ, suc, inl, inr, ◌+◌, ◌*◌, ◌≤◌, ◌^◌, length, refl, ap, arith, lit≤}
use Rattle.std.proofs.Math.Nat.{pow-suc, pow-zero, two-pow-succ, pow-le-pow_left, pow-le-pow_right, mul-le-mul_left, mul-le-mul_right, mul-le-mul, add_comm}
use Rattle.std.proofs.lemmas.Bool.{cases_lt}
use Rattle.ceal_order.specs.declared.tree.Tree.{Tree, Empty, Fork'}
use Rattle.ceal_order.specs.Tree.{items_of, forks_of, depth_of, IsBalanced, AreNear}
use Rattle.ceal_order.proofs.TreeLemmas.{length-parts}

square : (n : ℕ) → n ^ 2 ≡ n * n
square n = rw (pow-suc n 1, pow-suc n 0, pow-zero n) (omega arith)

-- the square of a sum, where each part is at least the root of a number, and the second number is the lower one
squares : (a b x y : ℕ) → x ≤ a * a → y ≤ b * b → y ≤ x → x + (y + y) ≤ (a + b) * (a + b)
squares a b x y first second low = elim (cases_lt a b) [
  | inl less ↦ let most : a * a ≤ a * b = mul-le-mul_left a (omega arith) in omega (arith, most)
  | inr more ↦ let most : b * b ≤ a * b = mul-le-mul_right b more in omega (arith, most)
]

doubled : (k n : ℕ) → k ≡ 1 + n → 2 ^ k ≡ 2 ^ n + 2 ^ n
doubled k n is = let next : k ≡ suc n = omega arith in rw (next, two-pow-succ n) refl

-- two trees under a fork
over : (m n a b : ℕ) → AreNear m n → 2 ^ m ≤ a * a → 2 ^ n ≤ b * b → 2 ^ (1 + max m n) ≤ (a + b) * (a + b)
over m n a b near first second = elim (cases_lt m n) [
  | inl less ↦
      let is : n ≡ 1 + m = omega (arith, near.1) in
      let most : 1 + max m n ≡ 1 + n = omega arith in
      let all = squares b a (2 ^ n) (2 ^ m) second first (omega (arith, doubled n m is)) in
      let same : (b + a) * (b + a) ≡ (a + b) * (a + b) = ap (λ (k : ℕ). k * k) (add_comm b a) in
      rw (doubled (1 + max m n) n most, ← same) (omega (arith, all, doubled n m is))
  | inr more ↦ elim (cases_lt n m) [
    | inl less ↦
        let is : m ≡ 1 + n = omega (arith, near.0) in
        let most : 1 + max m n ≡ 1 + m = omega arith in
        let all = squares a b (2 ^ m) (2 ^ n) first second (omega (arith, doubled m n is)) in
        rw (doubled (1 + max m n) m most) (omega (arith, all, doubled m n is))
    | inr level ↦
        let is : m ≡ n = omega arith in
        let most : 1 + max m n ≡ 1 + m = omega arith in
        let alike : 2 ^ m ≡ 2 ^ n = ap (λ (k : ℕ). 2 ^ k) is in
        let all = squares a b (2 ^ m) (2 ^ n) first second (omega (arith, alike)) in
        rw (doubled (1 + max m n) m most) (omega (arith, all, alike))
  ]
]

-- the depth is twice the logarithm of one more than the forks, at most
pub deep : {A : Type 0} (t : Tree A) → IsBalanced t → 2 ^ depth_of t ≤ (1 + forks_of t) * (1 + forks_of t)
deep Empty b = lit≤ tt
deep (Fork' p items count height earlier later) b =
    let all = over (depth_of earlier) (depth_of later) (1 + forks_of earlier) (1 + forks_of later) b.2 (deep earlier b.3) (deep later b.4) in
    let same : 1 + forks_of earlier + (1 + forks_of later) ≡ 1 + (1 + forks_of earlier + forks_of later) = omega arith in
    rw same at all

pub deep_squared : {A : Type 0} (t : Tree A) → IsBalanced t → 2 ^ depth_of t ≤ (1 + forks_of t) ^ 2
deep_squared t b = rw (square (1 + forks_of t)) (deep t b)

-- each fork has an item
pub few_forks : {A : Type 0} (t : Tree A) → IsBalanced t → forks_of t ≤ length (items_of t)
few_forks Empty b = lit≤ tt
few_forks (Fork' p items count height earlier later) b =
    omega (arith, length-parts (items_of earlier) items.items (items_of later), few_forks earlier b.3, few_forks later b.4, b.0.0)

-- a byte holds the height of each tree that there may be
pub low : {A : Type 0} (t : Tree A) → IsBalanced t → forks_of t ≤ 18446744073709551616 → depth_of t ≤ 254
low t b few = elim (cases_lt (depth_of t) 255) [
  | inl less ↦ omega arith
  | inr more ↦
      let big : 2 ^ 255 ≤ 2 ^ depth_of t = pow-le-pow_right (lit≤ tt) more in
      let some : 1 + forks_of t ≤ 18446744073709551617 = omega arith in
      let most : (1 + forks_of t) * (1 + forks_of t) ≤ 18446744073709551617 * 18446744073709551617 = mul-le-mul some some in
      absurd (omega (arith, big, most, deep t b))
]

-- and so the depth is twice the logarithm of one more than the items, at most
pub deep_in_items : {A : Type 0} (t : Tree A) → IsBalanced t → 2 ^ depth_of t ≤ (1 + length (items_of t)) ^ 2
deep_in_items t b =
    let more : 1 + forks_of t ≤ 1 + length (items_of t) = omega (arith, few_forks t b) in
    let most : (1 + forks_of t) ^ 2 ≤ (1 + length (items_of t)) ^ 2 = pow-le-pow_left more 2 in
    omega (arith, deep_squared t b, most)
