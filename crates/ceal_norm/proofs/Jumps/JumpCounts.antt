-- How often a block is the target of a jump.
use Rattle.std.proofs.Common.{◌≡◌, ◌⊎◌, inl, inr, ℕ, zero, suc, ◌+◌, ◌==◌, ◌<◌, ◌≤◌, Bool, true, false, ◌||◌, if◌then◌else◌, nat_le, List, [], ◌∷◌, ◌++◌, slice_get, Contains, refl, ap, ◌∙◌, arith}
use Rattle.std.proofs.lemmas.Bool.{le-leb, or_left, or_right}
use Rattle.std.proofs.lemmas.List.Elements.{Contains-push_cases, Contains-append_cases}
use Rattle.ceal_flow.specs.Laws.{firsts}
use Rattle.ceal_flow.specs.Paths.{jumps, jumps_at}
use Rattle.ceal_flow.specs.Program.{Graph}
use Rattle.ceal_flow.specs.Sets.{is_in}
use Rattle.ceal_flow.specs.declared.block.GraphBlock.{GraphBlock}
use Rattle.ceal_norm.specs.Entries.{all_continuations, all_jumps, count, is_entry}

pub contains-none : (c : ℕ) → Contains [] c → ⊥
contains-none c h = let l = h.1 in omega (arith, l)

pub contains-one : (x c : ℕ) → Contains (x ∷ []) c → x ≡ c
contains-one x c h = elim (Contains-push_cases [] x c h) [ inl k ↦ absurd (contains-none c k) | inr e ↦ e ]

pub contains-cases : (x : ℕ) (xs : List ℕ) (c : ℕ) → Contains (x ∷ xs) c → (x ≡ c) ⊎ Contains xs c
contains-cases x xs c h = elim (Contains-append_cases (x ∷ []) xs c h) [ inl k ↦ inl (contains-one x c k) | inr k ↦ inr k ]

same-number : (n : ℕ) → (n == n) ≡ true
same-number n = grind arith

pub contains-is_in : (xs : List ℕ) (c : ℕ) → Contains xs c → is_in c xs ≡ true
contains-is_in [] c h = absurd (contains-none c h)
contains-is_in (x ∷ xs) c h = elim (contains-cases x xs c h) [
  | inl e ↦ or_left (x == c) (is_in c xs) (rw e (same-number c))
  | inr k ↦ or_right (x == c) (is_in c xs) (contains-is_in xs c k)
]

count-more : (b : Bool) (m n : ℕ) → (if b then (m + n) + 1 else m + n) ≡ (if b then m + 1 else m) + n
count-more true m n = omega arith
count-more false m n = refl

pub count-append : (c : ℕ) (xs ys : List ℕ) → count c (xs ++ ys) ≡ count c xs + count c ys
unfolding count
count-append c [] ys = omega arith
count-append c (x ∷ xs) ys =
    ap (λ n. if x == c then n + 1 else n) (count-append c xs ys) ∙ count-more (x == c) (count c xs) (count c ys)

one-counted : (b : Bool) (n : ℕ) → b ≡ true → 1 ≤ (if b then n + 1 else n)
one-counted true n h = omega arith
one-counted false n h = cc

count-kept : (b : Bool) (n : ℕ) → 1 ≤ n → 1 ≤ (if b then n + 1 else n)
count-kept true n h = omega arith
count-kept false n h = h

pub count-contains : (c : ℕ) (xs : List ℕ) → Contains xs c → 1 ≤ count c xs
unfolding count
count-contains c [] h = absurd (contains-none c h)
count-contains c (x ∷ xs) h = elim (contains-cases x xs c h) [
  | inl e ↦ one-counted (x == c) (count c xs) (rw e (same-number c))
  | inr k ↦ count-kept (x == c) (count c xs) (count-contains c xs k)
]

-- a jump of the block of this number
pub count-jump : (blocks : List GraphBlock) (b c : ℕ) → Contains (jumps_at (slice_get blocks b)) c → 1 ≤ count c (all_jumps blocks)
unfolding all_jumps
count-jump [] b c h = absurd (contains-none c h)
count-jump (x ∷ xs) zero c h =
    let e = count-append c (jumps x) (all_jumps xs) in
    let l = count-contains c (jumps x) h in omega (arith, e, l)
count-jump (x ∷ xs) (suc b) c h =
    let e = count-append c (jumps x) (all_jumps xs) in
    let l = count-jump xs b c h in omega (arith, e, l)

-- jumps of two blocks
count-jumps : (blocks : List GraphBlock) (a b c : ℕ) → a < b → Contains (jumps_at (slice_get blocks a)) c
    → Contains (jumps_at (slice_get blocks b)) c → 2 ≤ count c (all_jumps blocks)
unfolding all_jumps
count-jumps [] a b c l h k = absurd (contains-none c h)
count-jumps (x ∷ xs) a zero c l h k = absurd (omega (arith, l))
count-jumps (x ∷ xs) zero (suc b) c l h k =
    let e = count-append c (jumps x) (all_jumps xs) in
    let m = count-contains c (jumps x) h in
    let n = count-jump xs b c k in omega (arith, e, m, n)
count-jumps (x ∷ xs) (suc a) (suc b) c l h k =
    let e = count-append c (jumps x) (all_jumps xs) in
    let m = count-jumps xs a b c (omega (arith, l)) h k in omega (arith, e, m)

module _ (g : Graph) where
  -- a function's first block is an entry
  pub first-entry : (b : ℕ) → Contains (firsts g.functions) b → is_entry g b ≡ true
  first-entry b h =
      or_left (is_in b (firsts g.functions) || is_in b (all_continuations g.blocks)) (nat_le 2 (count b (all_jumps g.blocks)))
      (or_left (is_in b (firsts g.functions)) (is_in b (all_continuations g.blocks)) (contains-is_in (firsts g.functions) b h))

  two-entry : (c : ℕ) → 2 ≤ count c (all_jumps g.blocks) → is_entry g c ≡ true
  two-entry c h =
      or_right (is_in c (firsts g.functions) || is_in c (all_continuations g.blocks)) (nat_le 2 (count c (all_jumps g.blocks)))
      (le-leb 2 (count c (all_jumps g.blocks)) h)

  -- so is what two blocks jump to
  pub jumps-entry : (a b c : ℕ) → (a < b) ⊎ (b < a) → Contains (jumps_at (slice_get g.blocks a)) c
      → Contains (jumps_at (slice_get g.blocks b)) c → is_entry g c ≡ true
  jumps-entry a b c (inl l) h k = two-entry c (count-jumps g.blocks a b c l h k)
  jumps-entry a b c (inr l) h k = two-entry c (count-jumps g.blocks b a c l k h)
