-- Chunks in ascending order.
use Rattle.std.proofs.Common.{◌≡◌, ◌≢◌, inl, inr, ℕ, zero, suc, ◌+◌, ◌^◌, ◌<◌, ◌≤◌, true, false, ◌==◌, Some, List, [], ◌∷◌, ◌++◌, length, take, drop, refl, sym, subst, arith}
use Rattle.std.specs.Prelude.{slice_get, slice_set}
use Rattle.std.proofs.lemmas.Bool.Decides.{eqb_tells}
use Rattle.ceal_flow.specs.declared.bits.Chunk.{Chunk}
use Rattle.ceal_flow.specs.Bits.{bits_of, AscendFrom, AreBefore}

other-number : (a b : ℕ) → a ≢ b → (a == b) ≡ false
other-number a b n = elim (eqb_tells a b) [ inl p ↦ absurd (n p.1) | inr p ↦ p.0 ]

same-number : (a : ℕ) → (a == a) ≡ true
same-number a = elim (eqb_tells a a) [ inl p ↦ p.0 | inr p ↦ absurd (p.1 refl) ]

-- no chunk is there before the first
pub bits-early : (a : ℕ) (cs : List Chunk) (k : ℕ) → AscendFrom a cs → k < a → bits_of cs k ≡ 0
bits-early a [] k h l = refl
bits-early a (c ∷ cs) k h l =
    let low = h.0 in
    let other : c.at ≢ k = λ e. absurd (omega (arith, e, low, l)) in
    rw (other-number c.at k other) (bits-early (c.at + 1) cs k h.2 (omega (arith, low, l)))

-- a chunk is not below where its list begins
pub not-below : (a : ℕ) (cs : List Chunk) (i : ℕ) (c : Chunk) → AscendFrom a cs → slice_get cs i ≡ Some c → a ≤ c.at
not-below a [] i c h e = cc
not-below a (d ∷ cs) zero c h e = let low = h.0 in let s : d ≡ c = cc in subst (λ x. a ≤ x.at) s low
not-below a (d ∷ cs) (suc i) c h e =
    let low = h.0 in
    let more = not-below (d.at + 1) cs i c h.2 e in omega (arith, low, more)

pub chunk-small : (a : ℕ) (cs : List Chunk) (i : ℕ) (c : Chunk) → AscendFrom a cs → slice_get cs i ≡ Some c → c.at < 2 ^ 26
chunk-small a [] i c h e = cc
chunk-small a (d ∷ cs) zero c h e = let s : d ≡ c = cc in subst (λ x. x.at < 2 ^ 26) s h.1
chunk-small a (d ∷ cs) (suc i) c h e = chunk-small (d.at + 1) cs i c h.2 e

-- the bits of a chunk that is there
pub bits-here : (a : ℕ) (cs : List Chunk) (i : ℕ) (c : Chunk) → AscendFrom a cs → slice_get cs i ≡ Some c → bits_of cs c.at ≡ c.bits
bits-here a [] i c h e = cc
bits-here a (d ∷ cs) zero c h e =
    let s : d ≡ c = cc in subst (λ x. bits_of (d ∷ cs) x.at ≡ x.bits) s (rw (same-number d.at) refl)
bits-here a (d ∷ cs) (suc i) c h e =
    let more = not-below (d.at + 1) cs i c h.2 e in
    let other : d.at ≢ c.at = λ s. absurd (omega (arith, s, more)) in
    rw (other-number d.at c.at other) (bits-here (d.at + 1) cs i c h.2 e)

-- no chunk is there, where the one at its place is another one
pub bits-none : (a : ℕ) (cs : List Chunk) (i k : ℕ) → AscendFrom a cs → AreBefore cs i k
    → ((c : Chunk) → slice_get cs i ≡ Some c → k < c.at) → bits_of cs k ≡ 0
bits-none a [] i k h b n = refl
bits-none a (d ∷ cs) zero k h b n =
    let l = n d refl in
    let other : d.at ≢ k = λ e. absurd (omega (arith, e, l)) in
    rw (other-number d.at k other) (bits-early (d.at + 1) cs k h.2 (omega (arith, l)))
bits-none a (d ∷ cs) (suc i) k h b n =
    let l = b.0 in
    let other : d.at ≢ k = λ e. absurd (omega (arith, e, l)) in
    rw (other-number d.at k other) (bits-none (d.at + 1) cs i k h.2 b.1 n)

-- one chunk gets other bits
module _ (at bits new : ℕ) where
  pub set-ascends : (a : ℕ) (cs : List Chunk) (i : ℕ) → AscendFrom a cs → slice_get cs i ≡ Some (record { at = at; bits = bits })
      → AscendFrom a (slice_set cs i (record { at = at; bits = new }))
  set-ascends a [] i h e = cc
  set-ascends a (d ∷ cs) zero h e =
      let s : d.at ≡ at = cc in (subst (λ x. a ≤ x) s h.0, subst (λ x. x < 2 ^ 26) s h.1, subst (λ x. AscendFrom (x + 1) cs) s h.2)
  set-ascends a (d ∷ cs) (suc i) h e = (h.0, h.1, set-ascends (d.at + 1) cs i h.2 e)

  pub set-here : (a : ℕ) (cs : List Chunk) (i : ℕ) → AscendFrom a cs → slice_get cs i ≡ Some (record { at = at; bits = bits })
      → bits_of (slice_set cs i (record { at = at; bits = new })) at ≡ new
  set-here a [] i h e = cc
  set-here a (d ∷ cs) zero h e = rw (same-number at) refl
  set-here a (d ∷ cs) (suc i) h e =
      let more = not-below (d.at + 1) cs i (record { at = at; bits = bits }) h.2 e in
      let other : d.at ≢ at = λ s. absurd (omega (arith, s, more)) in
      rw (other-number d.at at other) (set-here (d.at + 1) cs i h.2 e)

  pub set-others : (cs : List Chunk) (i k : ℕ) → slice_get cs i ≡ Some (record { at = at; bits = bits }) → k ≢ at
      → bits_of (slice_set cs i (record { at = at; bits = new })) k ≡ bits_of cs k
  set-others [] i k e n = cc
  set-others (d ∷ cs) zero k e n =
      let s : d.at ≡ at = cc in
      let mine = other-number at k (λ q. n (sym q)) in
      rw (mine, s, mine) refl
  set-others (d ∷ cs) (suc i) k e n = rw (set-others cs i k e n) refl

  pub set-before : (cs : List Chunk) (i b : ℕ) → AreBefore cs i b → AreBefore (slice_set cs i (record { at = at; bits = new })) i b
  set-before [] i b h = tt
  set-before (d ∷ cs) zero b h = tt
  set-before (d ∷ cs) (suc i) b h = (h.0, set-before cs i b h.1)

-- a chunk is put in at its place
module _ (c : Chunk) (small : c.at < 2 ^ 26) where
  pub put-ascends : (a : ℕ) (cs : List Chunk) (i : ℕ) → AscendFrom a cs → a ≤ c.at → AreBefore cs i c.at
      → ((d : Chunk) → slice_get cs i ≡ Some d → c.at < d.at) → AscendFrom a (take i cs ++ c ∷ drop i cs)
  put-ascends a [] zero h l b n = (l, small, tt)
  put-ascends a [] (suc i) h l b n = (l, small, tt)
  put-ascends a (d ∷ cs) zero h l b n = let m = n d refl in (l, small, (omega (arith, m), h.1, h.2))
  put-ascends a (d ∷ cs) (suc i) h l b n = let m = b.0 in (h.0, h.1, put-ascends (d.at + 1) cs i h.2 (omega (arith, m)) b.1 n)

  pub put-here : (cs : List Chunk) (i : ℕ) → AreBefore cs i c.at → bits_of (take i cs ++ c ∷ drop i cs) c.at ≡ c.bits
  put-here [] zero b = rw (same-number c.at) refl
  put-here [] (suc i) b = rw (same-number c.at) refl
  put-here (d ∷ cs) zero b = rw (same-number c.at) refl
  put-here (d ∷ cs) (suc i) b =
      let l = b.0 in
      let other : d.at ≢ c.at = λ s. absurd (omega (arith, s, l)) in
      rw (other-number d.at c.at other) (put-here cs i b.1)

  pub put-others : (cs : List Chunk) (i k : ℕ) → k ≢ c.at → bits_of (take i cs ++ c ∷ drop i cs) k ≡ bits_of cs k
  put-others [] zero k n = rw (other-number c.at k (λ e. n (sym e))) refl
  put-others [] (suc i) k n = rw (other-number c.at k (λ e. n (sym e))) refl
  put-others (d ∷ cs) zero k n = rw (other-number c.at k (λ e. n (sym e))) refl
  put-others (d ∷ cs) (suc i) k n = rw (put-others cs i k n) refl

  pub put-before : (cs : List Chunk) (i b : ℕ) → i ≤ length cs → AreBefore cs i b → AreBefore (take i cs ++ c ∷ drop i cs) i b
  put-before [] zero b l h = tt
  put-before [] (suc i) b l h = absurd (omega (arith, l))
  put-before (d ∷ cs) zero b l h = tt
  put-before (d ∷ cs) (suc i) b l h = (h.0, put-before cs i b (omega (arith, l)) h.1)

-- one chunk more is before another
pub before-none : (cs : List Chunk) (b : ℕ) → AreBefore cs 0 b
before-none [] b = tt
before-none (d ∷ cs) b = tt

pub before-more : (cs : List Chunk) (i b : ℕ) (c : Chunk) → AreBefore cs i b → slice_get cs i ≡ Some c → c.at < b → AreBefore cs (suc i) b
before-more [] i b c h e l = tt
before-more (d ∷ cs) zero b c h e l = let s : d ≡ c = cc in (subst (λ x. x.at < b) (sym s) l, before-none cs b)
before-more (d ∷ cs) (suc i) b c h e l = (h.0, before-more cs i b c h.1 e l)

pub before-later : (cs : List Chunk) (i a b : ℕ) → AreBefore cs i a → a ≤ b → AreBefore cs i b
before-later [] i a b h l = tt
before-later (d ∷ cs) zero a b h l = tt
before-later (d ∷ cs) (suc i) a b h l = let m = h.0 in (omega (arith, m, l), before-later cs i a b h.1 l)

-- the first chunks, with one more of them
module _ (c : Chunk) where
  pub take-here : (a : ℕ) (cs : List Chunk) (i : ℕ) → AscendFrom a cs → slice_get cs i ≡ Some c → bits_of (take (suc i) cs) c.at ≡ c.bits
  take-here a [] i h e = cc
  take-here a (d ∷ cs) zero h e = let s : d ≡ c = cc in subst (λ x. bits_of (d ∷ []) x.at ≡ x.bits) s (rw (same-number d.at) refl)
  take-here a (d ∷ cs) (suc i) h e =
      let more = not-below (d.at + 1) cs i c h.2 e in
      let other : d.at ≢ c.at = λ s. absurd (omega (arith, s, more)) in
      rw (other-number d.at c.at other) (take-here (d.at + 1) cs i h.2 e)

  pub take-none : (a : ℕ) (cs : List Chunk) (i : ℕ) → AscendFrom a cs → slice_get cs i ≡ Some c → bits_of (take i cs) c.at ≡ 0
  take-none a [] i h e = cc
  take-none a (d ∷ cs) zero h e = refl
  take-none a (d ∷ cs) (suc i) h e =
      let more = not-below (d.at + 1) cs i c h.2 e in
      let other : d.at ≢ c.at = λ s. absurd (omega (arith, s, more)) in
      rw (other-number d.at c.at other) (take-none (d.at + 1) cs i h.2 e)

  pub take-others : (cs : List Chunk) (i k : ℕ) → slice_get cs i ≡ Some c → k ≢ c.at → bits_of (take (suc i) cs) k ≡ bits_of (take i cs) k
  take-others [] i k e n = cc
  take-others (d ∷ cs) zero k e n =
      let s : d ≡ c = cc in
      rw (other-number d.at k (λ q. n (sym (subst (λ x. x.at ≡ k) s q)))) refl
  take-others (d ∷ cs) (suc i) k e n = rw (take-others cs i k e n) refl

  pub next-later : (a : ℕ) (cs : List Chunk) (i : ℕ) (d : Chunk) → AscendFrom a cs → slice_get cs i ≡ Some c → slice_get cs (suc i) ≡ Some d → c.at < d.at
  next-later a [] i d h e f = cc
  next-later a (b ∷ cs) zero d h e f =
      let s : b ≡ c = cc in
      let more = not-below (b.at + 1) cs 0 d h.2 f in subst (λ x. x.at < d.at) s (omega (arith, more))
  next-later a (b ∷ cs) (suc i) d h e f = next-later (b.at + 1) cs i d h.2 e f

  pub next-place : (a : ℕ) (cs : List Chunk) (i : ℕ) (d : Chunk) → AscendFrom a cs → slice_get cs i ≡ Some c → slice_get cs (i + 1) ≡ Some d → c.at < d.at
  next-place a cs i d h e f =
      let one : i + 1 ≡ suc i = omega arith in next-later a cs i d h e (subst (λ n. slice_get cs n ≡ Some d) one f)

  -- those before a chunk in the list are before it
  pub prefix-before : (a : ℕ) (cs : List Chunk) (i : ℕ) → AscendFrom a cs → slice_get cs i ≡ Some c → AreBefore cs i c.at
  prefix-before a [] i h e = tt
  prefix-before a (d ∷ cs) zero h e = tt
  prefix-before a (d ∷ cs) (suc i) h e =
      let more = not-below (d.at + 1) cs i c h.2 e in (omega (arith, more), prefix-before (d.at + 1) cs i h.2 e)

  pub before-there : (cs : List Chunk) (i b : ℕ) → AreBefore cs (suc i) b → slice_get cs i ≡ Some c → c.at < b
  before-there [] i b h e = cc
  before-there (d ∷ cs) zero b h e = let s : d ≡ c = cc in subst (λ x. x.at < b) s h.0
  before-there (d ∷ cs) (suc i) b h e = before-there cs i b h.1 e

pub all-before : (a : ℕ) (cs : List Chunk) (i : ℕ) → AscendFrom a cs → AreBefore cs i (2 ^ 26)
all-before a [] i h = tt
all-before a (d ∷ cs) zero h = tt
all-before a (d ∷ cs) (suc i) h = (h.1, all-before (d.at + 1) cs i h.2)

pub none-at-end : (cs : List Chunk) (c : Chunk) → slice_get cs (length cs) ≡ Some c → ⊥
none-at-end [] c e = cc
none-at-end (d ∷ cs) c e = none-at-end cs c e
