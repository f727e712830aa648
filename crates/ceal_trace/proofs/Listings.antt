-- The entries that a table keeps, in the order of their stamps.
use Rattle.std.proofs.Common.{◌≡◌, ◌≢◌, ℕ, Bool, inl, inr, true, false, List, [], ◌∷◌, refl, sym, ap, ◌∙◌, Some}
use Rattle.std.specs.Bool.{◌==◌}
use Rattle.std.proofs.lemmas.Bool.Decides.{eqb_tells}
use Rattle.ceal_order.specs.Stamps.{Distinct, is_in, with_after, without}
use Rattle.ceal_trace.specs.Nodes.{Entry, stamps_in, entry_at, with_entry_after, without_entry, changed_at}
use Rattle.ceal_trace.specs.Keeping.{listed}
use Rattle.ceal_trace.proofs.Stamped.{NotIn-apart, in_head, in_tail}

module _ (entry : ℕ → Entry) (stamp_is : (s : ℕ) → (entry s).stamp ≡ s) where
  stamp_seen : (x s : ℕ) (b : Bool) → (x == s) ≡ b → ((entry x).stamp == s) ≡ b
  stamp_seen x s b is = ap (λ (k : ℕ). k == s) (stamp_is x) ∙ is

  pub stamps_listed : (ss : List ℕ) → stamps_in (listed entry ss) ≡ ss
  stamps_listed [] = refl
  stamps_listed (x ∷ xs) = rw (stamp_is x, stamps_listed xs) refl

  pub entry_listed : (s : ℕ) (ss : List ℕ) → is_in s ss ≡ true → entry_at s (listed entry ss) ≡ Some (entry s)
  entry_listed s [] found = absurd (cc)
  entry_listed s (x ∷ xs) found = elim (eqb_tells x s) [
    | inl p ↦ rw (stamp_seen x s true p.0) (ap (λ (k : ℕ). Some (entry k)) p.1)
    | inr p ↦ rw (stamp_seen x s false p.0) (entry_listed s xs (rw p.0 at found))
  ]

module _ (old new : ℕ → Entry) where
  pub listed_same : (ss : List ℕ) → ((s : ℕ) → is_in s ss ≡ true → new s ≡ old s) → listed new ss ≡ listed old ss
  listed_same [] same = refl
  listed_same (x ∷ xs) same =
      let first : new x ≡ old x = same x (in_head x xs) in
      let rest : listed new xs ≡ listed old xs = listed_same xs (λ s found. same s (in_tail s x xs found)) in
      rw (first, rest) refl

  module _ (old_is : (s : ℕ) → (old s).stamp ≡ s) where
    pub listed_after : (s n : ℕ) (ss : List ℕ) → ((u : ℕ) → is_in u ss ≡ true → new u ≡ old u)
        → listed new (with_after s n ss) ≡ with_entry_after s (new n) (listed old ss)
    listed_after s n [] same = refl
    listed_after s n (x ∷ xs) same =
        let first : new x ≡ old x = same x (in_head x xs) in
        let later : (u : ℕ) → is_in u xs ≡ true → new u ≡ old u = λ u found. same u (in_tail u x xs found) in
        elim (eqb_tells x s) [
          | inl p ↦ rw (p.0, stamp_seen old old_is x s true p.0) (rw (first, listed_same xs later) refl)
          | inr p ↦ rw (p.0, stamp_seen old old_is x s false p.0) (rw (first, listed_after s n xs later) refl)
        ]

    pub listed_without : (s : ℕ) (ss : List ℕ) → Distinct ss → ((u : ℕ) → is_in u ss ≡ true → u ≢ s → new u ≡ old u)
        → listed new (without s ss) ≡ without_entry s (listed old ss)
    listed_without s [] distinct same = refl
    listed_without s (x ∷ xs) distinct same = elim (eqb_tells x s) [
      | inl p ↦
          let later : (u : ℕ) → is_in u xs ≡ true → new u ≡ old u =
          λ u found. same u (in_tail u x xs found) (λ e. NotIn-apart u x xs distinct.0 found (e ∙ sym p.1)) in
          rw (p.0, stamp_seen old old_is x s true p.0) (listed_same xs later)
      | inr p ↦
          let first : new x ≡ old x = same x (in_head x xs) p.1 in
          rw (p.0, stamp_seen old old_is x s false p.0) (rw (first, listed_without s xs distinct.1 (λ u found. same u (in_tail u x xs found))) refl)
    ]

    pub listed_changed : (s : ℕ) (change : Entry → Entry) (ss : List ℕ) → Distinct ss → new s ≡ change (old s)
        → ((u : ℕ) → is_in u ss ≡ true → u ≢ s → new u ≡ old u)
        → listed new ss ≡ changed_at s change (listed old ss)
    listed_changed s change [] distinct now same = refl
    listed_changed s change (x ∷ xs) distinct now same = elim (eqb_tells x s) [
      | inl p ↦
          let first : new x ≡ change (old x) = ap new p.1 ∙ (now ∙ ap (λ (k : ℕ). change (old k)) (sym p.1)) in
          let later : (u : ℕ) → is_in u xs ≡ true → new u ≡ old u =
          λ u found. same u (in_tail u x xs found) (λ e. NotIn-apart u x xs distinct.0 found (e ∙ sym p.1)) in
          rw (stamp_seen old old_is x s true p.0) (rw (first, listed_same xs later) refl)
      | inr p ↦
          let first : new x ≡ old x = same x (in_head x xs) p.1 in
          rw (stamp_seen old old_is x s false p.0) (rw (first, listed_changed s change xs distinct.1 now (λ u found. same u (in_tail u x xs found))) refl)
    ]
