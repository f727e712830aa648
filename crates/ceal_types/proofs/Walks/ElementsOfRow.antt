-- The elements of a row, one after another.
use Rattle.std.proofs.Common.{◌≡◌, ◌⊎◌, inl, inr, ℕ, zero, suc, ◌+◌, ◌≤◌, arith, Result, Ok, refl, subst, sym, ◌∙◌, ap}
use Rattle.ceal_base.specs.Answers.{Fails}
use Rattle.ceal_base.specs.declared.fault.FrontError.{FrontError}
use Rattle.ceal_base.specs.declared.kind.FieldKind.{FieldKind}
use Rattle.ceal_base.specs.declared.syntax.Ident.{Ident}
use Rattle.ceal_types.specs.Expressions.{Fields}
use Rattle.ceal_types.specs.Heads.{with_element, with_elements}
use Rattle.ceal_types.specs.Walk.{after}
use Rattle.ceal_types.proofs.Walks.WalkFromItem.{fails-after}

split-more : (i n : ℕ) → (i ≡ suc n) ⊎ (i ≤ n) → (suc i ≡ suc (suc n)) ⊎ (suc i ≤ suc n)
split-more i n (inl e) = inl (ap suc e)
split-more i n (inr k) = inr (omega (arith, k))

split : (i n : ℕ) → i ≤ suc n → (i ≡ suc n) ⊎ (i ≤ n)
split zero n l = inr (omega arith)
split (suc i) zero l = inl (omega (arith, l))
split (suc i) (suc n) l = split-more i n (split i n (omega (arith, l)))

module _ (name : Ident) (kind : FieldKind) (row : ℕ) (fields : Fields) where
  pub elements-none : with_elements name kind row 0 fields ≡ Ok fields
  unfolding with_elements
  elements-none = refl

  elements-more : (i : ℕ) → with_elements name kind row (suc i) fields ≡ after (with_element name kind row i) (with_elements name kind row i fields)
  unfolding with_elements
  elements-more i = refl

  -- an element without a fault leaves the rest
  pub elements-passed : (i : ℕ) (s t : Fields) → with_elements name kind row i fields ≡ Ok s → with_element name kind row i s ≡ Ok t → with_elements name kind row (i + 1) fields ≡ Ok t
  elements-passed i s t h k =
      let n : (i + 1) ≡ suc i = omega arith in
      rw n (elements-more i ∙ (ap (after (with_element name kind row i)) h ∙ k))

  fails-more : (i n : ℕ) (e : FrontError) → i ≤ n → Fails e (with_elements name kind row i fields) → Fails e (with_elements name kind row n fields)
  fails-more i zero e l h = let z : i ≡ 0 = omega (arith, l) in subst (λ (i : ℕ). Fails e (with_elements name kind row i fields)) z h
  fails-more i (suc n) e l h = go (λ k. fails-more i n e k h) (split i n l)
    where
      go : (i ≤ n → Fails e (with_elements name kind row n fields)) → (i ≡ suc n) ⊎ (i ≤ n) → Fails e (with_elements name kind row (suc n) fields)
      go again (inl z) = subst (λ (i : ℕ). Fails e (with_elements name kind row i fields)) z h
      go again (inr k) =
          subst (λ (r : Result Fields _). Fails e r) (sym (elements-more n))
          (fails-after (with_element name kind row n) (with_elements name kind row n fields) e (again k))

  -- an element's fault is that of the row
  pub elements-failed : (i n : ℕ) (s : Fields) (e : FrontError) → i + 1 ≤ n → with_elements name kind row i fields ≡ Ok s → Fails e (with_element name kind row i s)
      → Fails e (with_elements name kind row n fields)
  elements-failed i n s e l h k =
      let m : (i + 1) ≡ suc i = omega arith in
      fails-more (suc i) n e (omega (arith, l)) (subst (λ (r : Result Fields _). Fails e r) (sym (elements-more i ∙ ap (after (with_element name kind row i)) h)) k)
