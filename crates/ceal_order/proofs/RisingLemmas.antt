-- Rising stamps along other orders.
use Rattle.std.proofs.Common.{◌≡◌, ◌≢◌, ◌<◌, ℕ, inl, inr, true, false, List, [], ◌∷◌, refl, ◌∙◌}
use Rattle.std.proofs.lemmas.Bool.Decides.{eqb_tells}
use Rattle.std.proofs.lemmas.Bool.{eq-eqb}
use Rattle.ceal_order.specs.Stamps.{is_in, place, OneMore}
use Rattle.ceal_order.specs.Rising.{IsBeforeAll, IsRising, KeepsOrder}

pub in_head : (x : ℕ) (xs : List ℕ) → is_in x (x ∷ xs) ≡ true
in_head x xs = rw (eq-eqb x x refl) refl

pub in_tail : (s x : ℕ) (xs : List ℕ) → is_in s xs ≡ true → is_in s (x ∷ xs) ≡ true
in_tail s x xs found = elim (eqb_tells x s) [ inl p ↦ rw p.0 refl | inr p ↦ rw p.0 found ]

before_still : (s : ℕ) (ts old new : List ℕ) → ((t : ℕ) → is_in t ts ≡ true → place s old < place t old → place s new < place t new) → IsBeforeAll old s ts → IsBeforeAll new s ts
before_still s [] old new keeps before = tt
before_still s (t ∷ ts) old new keeps before = (
  keeps t (in_head t ts) before.0,
  before_still s ts old new (λ u found. keeps u (in_tail u t ts found)) before.1,
)

keeps_tail : (s : ℕ) (ss old new : List ℕ) → KeepsOrder (s ∷ ss) old new → KeepsOrder ss old new
keeps_tail s ss old new keeps = record {
  there = λ a found. keeps.there a (in_tail a s ss found);
  order = λ a b a_in b_in. keeps.order a b (in_tail a s ss a_in) (in_tail b s ss b_in);
}

pub rising_kept : (ss old new : List ℕ) → IsRising old ss → KeepsOrder ss old new → IsRising new ss
rising_kept [] old new rising keeps = tt
rising_kept (s ∷ ss) old new rising keeps = (
  keeps.there s (in_head s ss),
  before_still s ss old new (λ t found. keeps.order s t (in_head s ss) (in_tail t s ss found)) rising.1,
  rising_kept ss old new rising.2 (keeps_tail s ss old new keeps),
)

-- a rising stamp is one of the order
pub in_order : (s : ℕ) (ss order : List ℕ) → IsRising order ss → is_in s ss ≡ true → is_in s order ≡ true
in_order s [] order rising found = absurd (cc)
in_order s (t ∷ ts) order rising found = elim (eqb_tells t s) [
  | inl p ↦ rw (← p.1) rising.0
  | inr p ↦ in_order s ts order rising.2 (rw p.0 at found)
]

pub rising_inserted : (more : ℕ) (ss old new : List ℕ) → IsRising old ss → OneMore more old new → IsRising new ss
rising_inserted more ss old new rising one = rising_kept ss old new rising (record {
  there = λ s found. one.others s (in_order s ss old rising found);
  order = λ a b a_in b_in less. (one.order a b (in_order a ss old rising a_in) (in_order b ss old rising b_in)).0 less;
})

-- a number of these and one that is not are two
apart : (s more : ℕ) (ss : List ℕ) → is_in more ss ≡ false → is_in s ss ≡ true → s ≢ more
apart s more [] none found same = absurd (cc)
apart s more (t ∷ ts) none found same = elim (eqb_tells t more) [
  | inl p ↦ absurd (let no : true ≡ false = rw p.0 at none in cc)
  | inr p ↦ elim (eqb_tells t s) [
    | inl q ↦ p.1 (q.1 ∙ same)
    | inr q ↦ apart s more ts (rw p.0 at none) (rw q.0 at found) same
  ]
]

pub rising_deleted : (gone : ℕ) (ss old new : List ℕ) → IsRising old ss → OneMore gone new old → is_in gone ss ≡ false → IsRising new ss
rising_deleted gone ss old new rising one none =
    let there : (s : ℕ) → is_in s ss ≡ true → is_in s new ≡ true
    = λ s found. one.only s (in_order s ss old rising found) (apart s gone ss none found) in
    rising_kept ss old new rising (record {
      there = there;
      order = λ a b a_in b_in less. (one.order a b (there a a_in) (there b b_in)).1 less;
    })
