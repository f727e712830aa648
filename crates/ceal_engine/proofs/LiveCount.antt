-- How many blocks of a heap are live, where it is known which.
use Rattle.std.proofs.Common.{◌≡◌, ◌≢◌, ℕ, suc, ◌+◌, ◌==◌, if◌then◌else◌, inl, inr, Bool, true, false, Option, Some, None, List, [], ◌∷◌, length, slice_get, set, refl, sym, ap, ◌∙◌, arith}
use Rattle.std.specs.Prelude.{◌↔◌}
use Rattle.std.proofs.lemmas.Bool.Decides.{eqb_tells}
use Rattle.ceal_base.specs.declared.word.BlockId.TheVariants.{Core}
use Rattle.ceal_code.proofs.Words.SameIsEqual.{some-same}
use Rattle.ceal_code.specs.Replay.{In, here, there, Distinct}
use Rattle.ceal_heap.proofs.TallyLemmas.{get_set_same, get_set_other, tally_set}
use Rattle.ceal_heap.specs.Heap.{Contents, Known, Live, IsLive, number_standing, state_standing, live_count}
use Rattle.ceal_heap.specs.Table.{tally, is_live, state_is_live, one_if}
use Rattle.ceal_heap.specs.declared.number.Number.{Number}
use Rattle.ceal_heap.specs.declared.number.State.{State}
use Rattle.ceal_heap.specs.declared.number.State.TheVariants.{Live as LiveState, Revoked as RevokedState, Released as ReleasedState}
use Rattle.ceal_repair.proofs.Nodes.NodeItems.{in-case}
use Rattle.ceal_repair.proofs.Runs.NewBlock.{in-count}

-- a number that is there and live
pub record LiveAt (numbers : List Number) (b : ℕ) : Type 0 where
  pub number : Number
  pub is : slice_get numbers b ≡ Some number
  pub live : is_live number ≡ true

none-live : (numbers : List Number) → ((b : ℕ) (x : Number) → slice_get numbers b ≡ Some x → is_live x ≡ true → ⊥) → tally is_live numbers ≡ 0
none-live [] h = refl
none-live (x ∷ xs) h = go (is_live x) refl (none-live xs (λ b y e. h (suc b) y e))
  where
    go : (t : Bool) → is_live x ≡ t → tally is_live xs ≡ 0 → one_if t + tally is_live xs ≡ 0
    go true e r = absurd (h 0 x refl e)
    go false e r = omega (arith, r)

pub count-live : (xs : List ℕ) (numbers : List Number) → Distinct xs → ((b : ℕ) → In b xs → LiveAt numbers b) → ((b : ℕ) (x : Number) → slice_get numbers b ≡ Some x → is_live x ≡ true → In b xs)
    → tally is_live numbers ≡ length xs
count-live [] numbers d live all = none-live numbers (λ b x e h. elim (all b x e h) [ ])
count-live (b ∷ xs) numbers d live all = go (count-live xs) (live b here)
  where
    other : (c : ℕ) → In c xs → c ≢ b
    other c i e = absurd (omega (arith, d c, in-count c xs i, one))
      where
        one : ◌≡◌ {A = ℕ} (if b == c then 1 else 0) 1
        one = elim (eqb_tells b c) [ inl p ↦ rw p.0 refl | inr p ↦ absurd (p.1 (sym e)) ]

    Again : Type 0
    Again = (numbers : List Number) → Distinct xs → ((b : ℕ) → In b xs → LiveAt numbers b) → ((b : ℕ) (x : Number) → slice_get numbers b ≡ Some x → is_live x ≡ true → In b xs)
        → tally is_live numbers ≡ length xs

    go : Again → LiveAt numbers b → tally is_live numbers ≡ length (b ∷ xs)
    go again t =
        let y : Number = record { shape = t.number.shape; state = ReleasedState } in
        let left : tally is_live (set numbers b y) ≡ length xs =
        again (set numbers b y) (λ c. omega (arith, d c))
        (λ c i. let l = live c (there i) in record { number = l.number; is = get_set_other numbers b c y (other c i) ∙ l.is; live = l.live })
        (λ c x e h. still c x e h) in
        let s : tally is_live (set numbers b y) + one_if (is_live t.number) ≡ tally is_live numbers + 0 = tally_set is_live numbers b t.number y t.is in
        let one : one_if (is_live t.number) ≡ 1 = ap one_if t.live in
        omega (arith, left, s, one)
      where
        still : (c : ℕ) (x : Number) → slice_get (set numbers b (record { shape = t.number.shape; state = ReleasedState })) c ≡ Some x → is_live x ≡ true → In c xs
        still c x e h = elim (eqb_tells c b) [
          | inl p ↦
              let same : record { shape = t.number.shape; state = ReleasedState } ≡ x =
              some-same (record { shape = t.number.shape; state = ReleasedState }) x
              (sym (get_set_same numbers b t.number (record { shape = t.number.shape; state = ReleasedState }) t.is) ∙ (rw p.1 at e)) in
              let no : false ≡ true = ap is_live same ∙ h in
              absurd (cc)
          | inr p ↦
              elim (in-case c b xs (all c x (sym (get_set_other numbers b c (record { shape = t.number.shape; state = ReleasedState }) p.1) ∙ e) h)) [ inl q ↦ absurd (p.1 q) | inr i ↦ i ]
        ]

module _ (heap : Contents) where
  -- the number of a live block
  pub number-of : (o : Option Number) (block : Known) → number_standing heap.region o ≡ Live block → (x : Number) × (o ≡ Some x) × (is_live x ≡ true)
  number-of None block e = absurd (cc)
  number-of (Some x) block e = (x, refl, go x.state e)
    where
      go : (st : State) → state_standing heap.region x.shape st ≡ Live block → state_is_live st ≡ true
      go (LiveState held) e = refl
      go (RevokedState held) e = absurd (cc)
      go ReleasedState e = absurd (cc)

  block-of : (x : Number) → is_live x ≡ true → (block : Known) × (number_standing heap.region (Some x) ≡ Live block)
  block-of x h = go x.state h
    where
      go : (st : State) → state_is_live st ≡ true → (block : Known) × (state_standing heap.region x.shape st ≡ Live block)
      go (LiveState held) h = (_, refl)
      go (RevokedState held) h = absurd (cc)
      go ReleasedState h = absurd (cc)

-- as many blocks are live as these, which are the live ones, each once
pub live-are : (heap : Contents) (xs : List ℕ) → Distinct xs → ((b : ℕ) → IsLive heap (Core b) ↔ In b xs) → live_count heap ≡ length xs
live-are heap xs d live =
    count-live xs heap.numbers d
    (λ b i. let l = (live b).1 i in let n = number-of heap (slice_get heap.numbers b) l.0 l.1 in record { number = n.0; is = n.1; live = n.2 })
    (λ b x e h. let k = block-of heap x h in (live b).0 (k.0, ap (number_standing heap.region) e ∙ k.1))
