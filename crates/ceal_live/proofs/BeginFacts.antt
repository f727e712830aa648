-- The sets with which the rounds begin.
use Rattle.std.proofs.Common.{◌≡◌, ℕ, zero, suc, ◌+◌, ◌^◌, ◌≤◌, Bool, true, false, ◌==◌, ◌||◌, List, [], ◌∷◌, ◌++◌, length, slice_get, refl, sym, ◌∙◌, arith, length-append}
use Rattle.ceal_flow.specs.Live.{uses, uses_at}
use Rattle.ceal_flow.specs.Paths.{stays}
use Rattle.ceal_flow.specs.Sets.{is_in, IsAscending, set_at}
use Rattle.ceal_flow.specs.declared.block.GraphBlock.{GraphBlock}
use Rattle.ceal_live.specs.Rounds.{Underway, Begun}

or-swap : (a b c : Bool) → (a || (b || c)) ≡ (b || (a || c))
or-swap true true c = refl
or-swap true false c = refl
or-swap false true c = refl
or-swap false false c = refl

-- one variable more
pub in-push : (xs : List ℕ) (x w : ℕ) → is_in w (xs ++ x ∷ []) ≡ (x == w || is_in w xs)
in-push [] x w = refl
in-push (y ∷ ys) x w = rw (in-push ys x w) (or-swap (y == w) (x == w) (is_in w ys))

push-each : (P : List ℕ → Type 0) → P [] → (sets : List (List ℕ)) (s : List ℕ) → P s → ((b : ℕ) → P (set_at sets b)) → (b : ℕ) → P (set_at (sets ++ s ∷ []) b)
push-each P none [] s here others zero = here
push-each P none [] s here others (suc b) = none
push-each P none (x ∷ xs) s here others zero = others 0
push-each P none (x ∷ xs) s here others (suc b) = push-each P none xs s here (λ k. others (suc k)) b

push-used : (sets : List (List ℕ)) (blocks : List GraphBlock) (s : List ℕ) (block : GraphBlock) → length sets ≡ length blocks
    → ((v : ℕ) → is_in v s ≡ is_in v (uses block)) → ((b v : ℕ) → is_in v (set_at sets b) ≡ is_in v (uses_at (slice_get blocks b)))
    → (b v : ℕ) → is_in v (set_at (sets ++ s ∷ []) b) ≡ is_in v (uses_at (slice_get (blocks ++ block ∷ []) b))
push-used [] [] s block l here others zero v = here v
push-used [] [] s block l here others (suc b) v = refl
push-used [] (y ∷ ys) s block l here others b v = absurd (omega (arith, l))
push-used (x ∷ xs) [] s block l here others b v = absurd (omega (arith, l))
push-used (x ∷ xs) (y ∷ ys) s block l here others zero v = others 0 v
push-used (x ∷ xs) (y ∷ ys) s block l here others (suc b) v = push-used xs ys s block (omega (arith, l)) here (λ k. others (suc k)) b v

-- one block more
pub begun-push : (blocks : List GraphBlock) (sets : List (List ℕ)) (block : GraphBlock) (s : List ℕ) → Begun blocks sets → IsAscending s → length s ≤ 2 ^ 32
    → ((v : ℕ) → is_in v s ≡ is_in v (uses block)) → Begun (blocks ++ block ∷ []) (sets ++ s ∷ [])
begun-push blocks sets block s h ascending few used = record {
  each = let e = h.each in simp length-append (omega (arith, e));
  ascending = push-each (λ x. IsAscending x) tt sets s ascending h.ascending;
  few = push-each (λ x. length x ≤ 2 ^ 32) (omega arith) sets s few h.few;
  used = push-used sets blocks s block h.each used h.used;
}

-- what a block uses is live there
pub begun-underway : (blocks : List GraphBlock) (sets : List (List ℕ)) → Begun blocks sets → Underway blocks sets
begun-underway blocks sets h = record {
  each = h.each;
  ascending = h.ascending;
  few = h.few;
  used = λ b v u. h.used b v ∙ u;
  sound = λ b v i. (b, stays, sym (h.used b v) ∙ i);
}
