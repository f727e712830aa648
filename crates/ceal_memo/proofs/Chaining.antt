-- Chains of buckets, as functions from numbers to links.
use Rattle.std.proofs.Common.{◌≡◌, ◌≢◌, ℕ, suc, zero, inl, inr, ◌⊎◌, ◌<◌, ◌≤◌, sym, subst, arith}
use Rattle.std.proofs.lemmas.Bool.Decides.{eqb_tells}
use Rattle.ceal_memo.specs.Chains.{IsLast, IsChained}

same_number : (m n : ℕ) → suc m ≡ suc n → m ≡ n
same_number m n same = omega arith

pub less_or : (m n : ℕ) → (m < n) ⊎ (n ≤ m)
less_or m zero = inr (omega arith)
less_or zero (suc n) = inl (omega arith)
less_or (suc m) (suc n) = elim (less_or m n) [ inl less ↦ inl (omega arith) | inr more ↦ inr (omega arith) ]

-- ---- a link

-- it leads to the last before a lower bound too, if that is not below it
pub lowered : (of : ℕ → ℕ → Type 0) (b bound lower link : ℕ) → link ≤ lower → lower ≤ bound → IsLast of b bound link → IsLast of b lower link
lowered of b bound lower link high low last = record {
  within = high;
  there = last.there;
  last = λ n under is. last.last n (omega arith) is;
}

-- it leads there among others too that are the same below the bound
pub last_as : (of of' : ℕ → ℕ → Type 0) (b bound link : ℕ) → ((n : ℕ) → n < bound → of n b → of' n b) → ((n : ℕ) → n < bound → of' n b → of n b)
    → IsLast of b bound link → IsLast of' b bound link
last_as of of' b bound link more less last = record {
  within = last.within;
  there = λ n is. let within = last.within in more n (omega arith) (last.there n is);
  last = λ n under is. last.last n under (less n under is);
}

-- ---- the same chains

pub chained_as : (of of' : ℕ → ℕ → Type 0) (size count : ℕ) (head head' next next' : ℕ → ℕ)
    → ((n b : ℕ) → n < count → of n b → of' n b) → ((n b : ℕ) → n < count → of' n b → of n b)
    → ((b : ℕ) → b < size → head' b ≡ head b) → ((n b : ℕ) → n < count → of n b → next' n ≡ next n)
    → IsChained of size count head next → IsChained of' size count head' next'
chained_as of of' size count head head' next next' more less heads nexts chained = record {
  heads = λ b within. subst (IsLast of' b count) (sym (heads b within))
      (last_as of of' b count (head b) (λ n under. more n b under) (λ n under. less n b under) (chained.heads b within));
  nexts = λ n b under is. subst (IsLast of' b n) (sym (nexts n b under (less n b under is)))
      (last_as of of' b n (next n) (λ m below. more m b (omega arith)) (λ m below. less m b (omega arith)) (chained.nexts n b under (less n b under is)));
}

-- ---- a group comes after all others

module _ (of : ℕ → ℕ → Type 0) (size i : ℕ) (head next : ℕ → ℕ) (chained : IsChained of size i head next) where
  -- it is the first in its bucket
  module _ (b : ℕ) (head' next' : ℕ → ℕ) (one : (c : ℕ) → of i c → c ≡ b) (own : of i b) (inside : b < size)
      (head_here : head' b ≡ suc i) (head_other : (c : ℕ) → c ≢ b → head' c ≡ head c)
      (next_here : next' i ≡ head b) (next_other : (n : ℕ) → n ≢ i → next' n ≡ next n) where
    at_head : IsLast of b (suc i) (suc i)
    at_head = record {
      within = omega arith;
      there = λ n is. subst (λ (k : ℕ). of k b) (same_number i n is) own;
      last = λ n under is. under;
    }

    other : (c : ℕ) → c < size → c ≢ b → IsLast of c (suc i) (head c)
    other c within differ = let last = chained.heads c within in record {
      within = let low = last.within in omega arith;
      there = last.there;
      last = λ n under is. elim (eqb_tells n i) [
        | inl p ↦ absurd (differ (one c (subst (λ (k : ℕ). of k c) p.1 is)))
        | inr p ↦ last.last n (omega arith) is
      ];
    }

    pub appended : IsChained of size (suc i) head' next'
    appended = record {
      heads = λ c within. elim (eqb_tells c b) [
        | inl p ↦ subst (λ (d : ℕ). IsLast of d (suc i) (head' d)) (sym p.1) (subst (IsLast of b (suc i)) (sym head_here) at_head)
        | inr p ↦ subst (IsLast of c (suc i)) (sym (head_other c p.1)) (other c within p.1)
      ];
      nexts = λ n c under is. elim (eqb_tells n i) [
        | inl p ↦
            let same : c ≡ b = one c (subst (λ (k : ℕ). of k c) p.1 is) in
            subst (λ (k : ℕ). IsLast of c k (next' k)) (sym p.1) (subst (λ (d : ℕ). IsLast of d i (next' i)) (sym same) (subst (IsLast of b i) (sym next_here) (chained.heads b inside)))
        | inr p ↦ subst (IsLast of c n) (sym (next_other n p.1)) (chained.nexts n c (omega arith) is)
      ];
    }

-- ---- a group comes between others

module _ (of of' : ℕ → ℕ → Type 0) (size count f b : ℕ) (head next : ℕ → ℕ) (chained : IsChained of size count head next)
    (one : (n c d : ℕ) → of n c → of n d → c ≡ d) (absent : (c : ℕ) → of f c → ⊥) (here : of' f b) (only : (c : ℕ) → of' f c → c ≡ b)
    (more : (n c : ℕ) → of n c → of' n c) (less : (n c : ℕ) → n ≢ f → of' n c → of n c) (low : f < count) (inside : b < size) where
  -- a link that does not lead past it stays
  stays : (c bound link : ℕ) → (c ≡ b → f < bound → f < link) → IsLast of c bound link → IsLast of' c bound link
  stays c bound link fits last = record {
    within = last.within;
    there = λ n is. more n c (last.there n is);
    last = λ n under is. elim (eqb_tells n f) [
      | inl p ↦
          let same : c ≡ b = only c (subst (λ (k : ℕ). of' k c) p.1 is) in
          let up : f < link = fits same (omega arith) in
          omega arith
      | inr p ↦ last.last n under (less n c p.1 is)
    ];
  }

  -- a link that leads past it leads to it now
  leads : (bound link : ℕ) → link ≤ f → f < bound → IsLast of b bound link → IsLast of' b bound (suc f)
  leads bound link past under last = record {
    within = omega arith;
    there = λ n is. subst (λ (k : ℕ). of' k b) (same_number f n is) here;
    last = λ n low' is. elim (eqb_tells n f) [
      | inl p ↦ omega arith
      | inr p ↦ let before = last.last n low' (less n b p.1 is) in omega arith
    ];
  }

  -- no link led to it
  past : (c bound link : ℕ) → link ≤ suc f → IsLast of c bound link → link ≤ f
  past c bound link most last = elim (eqb_tells link (suc f)) [
    | inl p ↦ absurd (absent c (last.there f p.1))
    | inr p ↦ omega arith
  ]

  -- its own link
  own : (next' : ℕ → ℕ) (bound link : ℕ) → link ≤ f → f ≤ bound → IsLast of b bound link → next' f ≡ link → (n c : ℕ) → n ≡ f → of' n c → IsLast of' c n (next' n)
  own next' bound link passed under last is n c at in' =
      let same : c ≡ b = only c (subst (λ (k : ℕ). of' k c) at in') in
      let kept : IsLast of' b f link = stays b f link (λ own more. absurd (omega arith)) (lowered of b bound f link passed under last) in
      subst (λ (k : ℕ). IsLast of' c k (next' k)) (sym at) (subst (λ (d : ℕ). IsLast of' d f (next' f)) (sym same) (subst (IsLast of' b f) (sym is) kept))

  -- it is the first in its bucket now
  module _ (head' next' : ℕ → ℕ) (first : head b ≤ suc f) (head_here : head' b ≡ suc f) (head_other : (c : ℕ) → c ≢ b → head' c ≡ head c)
      (next_here : next' f ≡ head b) (next_other : (n : ℕ) → n ≢ f → next' n ≡ next n) where
    passed : head b ≤ f
    passed = past b count (head b) first (chained.heads b inside)

    pub inserted_first : IsChained of' size count head' next'
    inserted_first = record {
      heads = λ c within. elim (eqb_tells c b) [
        | inl p ↦ subst (λ (d : ℕ). IsLast of' d count (head' d)) (sym p.1) (subst (IsLast of' b count) (sym head_here) (leads count (head b) passed low (chained.heads b inside)))
        | inr p ↦ subst (IsLast of' c count) (sym (head_other c p.1)) (stays c count (head c) (λ same. absurd (p.1 same)) (chained.heads c within))
      ];
      nexts = λ n c under is. elim (eqb_tells n f) [
        | inl p ↦ own next' count (head b) passed (omega arith) (chained.heads b inside) next_here n c p.1 is
        | inr p ↦
            let was = less n c p.1 is in
            subst (IsLast of' c n) (sym (next_other n p.1)) (stays c n (next n) (λ same above.
            let below = (chained.heads b inside).last n under (subst (of n) same was) in absurd (omega arith)) (chained.nexts n c under was))
      ];
    }

  -- it comes after another
  module _ (p : ℕ) (head' next' : ℕ → ℕ) (in_p : of p b) (up : f < p) (high : p < count) (first : next p ≤ suc f)
      (head_same : (c : ℕ) → head' c ≡ head c) (next_p : next' p ≡ suc f) (next_here : next' f ≡ next p)
      (next_other : (n : ℕ) → n ≢ f → n ≢ p → next' n ≡ next n) where
    last_p : IsLast of b p (next p)
    last_p = chained.nexts p b high in_p

    passed_p : next p ≤ f
    passed_p = past b p (next p) first last_p

    pub inserted_after : IsChained of' size count head' next'
    inserted_after = record {
      heads = λ c within. subst (IsLast of' c count) (sym (head_same c)) (stays c count (head c) (λ same above.
          let below = (chained.heads c within).last p high (subst (of p) (sym same) in_p) in omega arith) (chained.heads c within));
      nexts = λ n c under is. elim (eqb_tells n f) [
        | inl at ↦ own next' p (next p) passed_p (omega arith) last_p next_here n c at.1 is
        | inr at ↦
            let was = less n c at.1 is in
            elim (eqb_tells n p) [
              | inl at_p ↦
                  let same : c ≡ b = one p c b (subst (λ (k : ℕ). of k c) at_p.1 was) in_p in
                  subst (λ (k : ℕ). IsLast of' c k (next' k)) (sym at_p.1)
                  (subst (λ (d : ℕ). IsLast of' d p (next' p)) (sym same) (subst (IsLast of' b p) (sym next_p) (leads p (next p) passed_p up last_p)))
              | inr at_p ↦
                  subst (IsLast of' c n) (sym (next_other n at.1 at_p.1)) (stays c n (next n) (λ same above. elim (less_or n p) [
                    | inl fewer ↦ let earlier = last_p.last n fewer (subst (of n) same was) in absurd (omega arith)
                    | inr most ↦
                        let differ : n ≢ p = at_p.1 in
                        let later = (chained.nexts n c under was).last p (omega arith) (subst (of p) (sym same) in_p) in
                        omega arith
                  ]) (chained.nexts n c under was))
            ]
      ];
    }

-- ---- a group goes

module _ (of of' : ℕ → ℕ → Type 0) (size count f b : ℕ) (head next : ℕ → ℕ) (chained : IsChained of size count head next)
    (one : (n c d : ℕ) → of n c → of n d → c ≡ d) (here : of f b) (gone : (c : ℕ) → of' f c → ⊥)
    (more : (n c : ℕ) → n ≢ f → of n c → of' n c) (less : (n c : ℕ) → of' n c → of n c) (low : f < count) (inside : b < size) where
  last_f : IsLast of b f (next f)
  last_f = chained.nexts f b low here

  -- a link that does not lead to it stays
  left : (c bound link : ℕ) → link ≢ suc f → IsLast of c bound link → IsLast of' c bound link
  left c bound link other last = record {
    within = last.within;
    there = λ n is. let apart : n ≢ f = λ same. other (subst (λ (k : ℕ). link ≡ suc k) same is) in more n c apart (last.there n is);
    last = λ n under is. last.last n under (less n c is);
  }

  -- a link that leads to it leads past it now
  passes : (bound link : ℕ) → link ≡ suc f → IsLast of b bound link → IsLast of' b bound (next f)
  passes bound link is last = record {
    within = let own = last_f.within in let within = last.within in omega arith;
    there = λ n at. let own = last_f.within in let apart : n ≢ f = λ same. absurd (omega arith) in more n b apart (last_f.there n at);
    last = λ n under in_n. elim (eqb_tells n f) [
      | inl p ↦ absurd (gone b (subst (λ (k : ℕ). of' k b) p.1 in_n))
      | inr p ↦ let before = last.last n under (less n b in_n) in last_f.last n (omega arith) (less n b in_n)
    ];
  }

  -- it was the first
  module _ (head' next' : ℕ → ℕ) (first : head b ≤ suc f) (head_here : head' b ≡ next f) (head_other : (c : ℕ) → c ≢ b → head' c ≡ head c)
      (next_other : (n : ℕ) → n ≢ f → next' n ≡ next n) where
    was_head : head b ≡ suc f
    was_head = let before = (chained.heads b inside).last f low here in omega arith

    pub removed_first : IsChained of' size count head' next'
    removed_first = record {
      heads = λ c within. elim (eqb_tells c b) [
        | inl p ↦ subst (λ (d : ℕ). IsLast of' d count (head' d)) (sym p.1) (subst (IsLast of' b count) (sym head_here) (passes count (head b) was_head (chained.heads b inside)))
        | inr p ↦ subst (IsLast of' c count) (sym (head_other c p.1))
            (left c count (head c) (λ same. p.1 (one f c b ((chained.heads c within).there f same) here)) (chained.heads c within))
      ];
      nexts = λ n c under is.
          let was = less n c is in
          let apart : n ≢ f = λ same. gone c (subst (λ (k : ℕ). of' k c) same is) in
          subst (IsLast of' c n) (sym (next_other n apart)) (left c n (next n) (λ same.
          let own : c ≡ b = one f c b ((chained.nexts n c under was).there f same) here in
          let within = (chained.nexts n c under was).within in
          let below = (chained.heads b inside).last n under (subst (of n) own was) in
          absurd (omega arith)) (chained.nexts n c under was));
    }

  -- it came after another
  module _ (p : ℕ) (head' next' : ℕ → ℕ) (in_p : of p b) (up : f < p) (high : p < count) (first : next p ≤ suc f)
      (head_same : (c : ℕ) → head' c ≡ head c) (next_p : next' p ≡ next f)
      (next_other : (n : ℕ) → n ≢ f → n ≢ p → next' n ≡ next n) where
    last_of_p : IsLast of b p (next p)
    last_of_p = chained.nexts p b high in_p

    was_next : next p ≡ suc f
    was_next = let before = last_of_p.last f up here in omega arith

    pub removed_after : IsChained of' size count head' next'
    removed_after = record {
      heads = λ c within. subst (IsLast of' c count) (sym (head_same c)) (left c count (head c) (λ same.
          let own : c ≡ b = one f c b ((chained.heads c within).there f same) here in
          let below = (chained.heads c within).last p high (subst (of p) (sym own) in_p) in
          absurd (omega arith)) (chained.heads c within));
      nexts = λ n c under is.
          let was = less n c is in
          let apart : n ≢ f = λ same. gone c (subst (λ (k : ℕ). of' k c) same is) in
          elim (eqb_tells n p) [
            | inl at ↦
                let same : c ≡ b = one p c b (subst (λ (k : ℕ). of k c) at.1 was) in_p in
                subst (λ (k : ℕ). IsLast of' c k (next' k)) (sym at.1)
                (subst (λ (d : ℕ). IsLast of' d p (next' p)) (sym same) (subst (IsLast of' b p) (sym next_p) (passes p (next p) was_next last_of_p)))
            | inr at ↦
                subst (IsLast of' c n) (sym (next_other n apart at.1)) (left c n (next n) (λ same.
                let own : c ≡ b = one f c b ((chained.nexts n c under was).there f same) here in
                let within = (chained.nexts n c under was).within in
                elim (less_or n p) [
                  | inl fewer ↦ let earlier = last_of_p.last n fewer (subst (of n) own was) in absurd (omega arith)
                  | inr most ↦
                      let differ : n ≢ p = at.1 in
                      let later = (chained.nexts n c under was).last p (omega arith) (subst (of p) (sym own) in_p) in
                      absurd (omega arith)
                ]) (chained.nexts n c under was))
          ];
    }
