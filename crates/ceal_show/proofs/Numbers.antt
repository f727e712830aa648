-- The table of the blocks that are met.
use Rattle.std.proofs.Common.{◌≡◌, ℕ, ◌+◌, ◌≤◌, true, false, cond, List, [], ◌∷◌, ◌++◌, length, Some, refl, sym, ap, ◌∙◌, subst, arith, inl, inr}
use Rattle.std.specs.Prelude.{is_some}
use Rattle.std.specs.HashMap.{get, HashMap}
use Rattle.std.specs.declared.hash.FoldHasher.{FoldHasher}
use Rattle.std.specs.declared.hash.BuildHasherDefault.{BuildHasherDefault}
use Rattle.std.proofs.lemmas.Bool.{false≢true, cases_Bool}
use Rattle.ceal_base.specs.contracts.word.BlockIdPartialEq.TheImpl.{ghosts}
use Rattle.ceal_base.specs.declared.word.BlockId.{BlockId}
use Rattle.ceal_base.specs.declared.word.BlockId.TheVariants.{Input, Core}
use Rattle.ceal_show.specs.Graph.{core_count, cores_before}
use Rattle.ceal_show.specs.Paths.{same_block, is_in}
use Rattle.ceal_show.specs.Search.{cores_in, number_in}
use Rattle.ceal_show.specs.Table.{IsTable}
use Rattle.ceal_show.proofs.Same.{same_tells, eq_same, same_self, is_in-push}

few_cores : (blocks : List BlockId) → cores_in blocks ≤ length blocks
few_cores [] = omega arith
few_cores (Input n ∷ bs) = let p = few_cores bs in omega (arith, p)
few_cores (Core n ∷ bs) = let p = few_cores bs in omega (arith, p)

one_at_most : (b : BlockId) → core_count b ≤ 1
one_at_most (Input n) = omega arith
one_at_most (Core n) = omega arith

pub cores_fit : (blocks : List BlockId) (b : BlockId) → cores_in blocks + core_count b ≤ length blocks + 1
cores_fit blocks b = let p = few_cores blocks in let q = one_at_most b in omega (arith, p, q)

cores_in-push : (blocks : List BlockId) (b : BlockId) → cores_in (blocks ++ b ∷ []) ≡ cores_in blocks + core_count b
cores_in-push [] b = omega arith
cores_in-push (c ∷ cs) b = let p = cores_in-push cs b in omega (arith, p)

-- a new block is after all core blocks
before_new : (blocks : List BlockId) (b : BlockId) → is_in b blocks ≡ false → cores_before b (blocks ++ b ∷ []) ≡ cores_in blocks
before_new [] b h = rw (same_self b) refl
before_new (c ∷ cs) b h = elim (same_tells b c) [
  | inl p ↦ absurd (false≢true (sym h ∙ rw p.0 refl))
  | inr p ↦ let k : is_in b cs ≡ false = (rw p.0 at h) in let r = before_new cs b k in rw p.0 (omega (arith, r))
]

before_old : (blocks : List BlockId) (q b : BlockId) → is_in q blocks ≡ true → cores_before q (blocks ++ b ∷ []) ≡ cores_before q blocks
before_old [] q b h = absurd (false≢true h)
before_old (c ∷ cs) q b h = elim (same_tells q c) [
  | inl p ↦ rw p.0 refl
  | inr p ↦ let k : is_in q cs ≡ true = (rw p.0 at h) in let r = before_old cs q b k in rw p.0 (omega (arith, r))
]

number_new : (blocks : List BlockId) (b : BlockId) → is_in b blocks ≡ false → number_in (blocks ++ b ∷ []) b ≡ Some (cores_in blocks + core_count b)
number_new blocks b h = rw (is_in-push b b blocks, h, same_self b, before_new blocks b h) refl

number_old : (blocks : List BlockId) (q b : BlockId) → same_block q b ≡ false → number_in (blocks ++ b ∷ []) q ≡ number_in blocks q
number_old blocks q b apart = elim (cases_Bool (is_in q blocks)) [
  | inl e ↦ rw (is_in-push q b blocks, e, before_old blocks q b e) refl
  | inr e ↦ rw (is_in-push q b blocks, e, apart) refl
]

abbrev Table : Type 0
Table = HashMap BlockId ℕ (BuildHasherDefault FoldHasher)

pub table_more : (blocks met : List BlockId) (b : BlockId) (numbers next : Table) (cores more : ℕ) → IsTable blocks numbers cores → is_some (get ghosts.eq numbers b) ≡ false
    → more ≡ cores + core_count b → ((q : BlockId) → get ghosts.eq next q ≡ cond (ghosts.eq b q) (Some more) (get ghosts.eq numbers q))
    → met ≡ blocks ++ b ∷ [] → IsTable met next more
table_more blocks met b numbers next cores more table none counted updates pushed = rw pushed record {
  numbered = numbered;
  counted = counted ∙ ap (λ (n : ℕ). n + core_count b) table.counted ∙ sym (cores_in-push blocks b);
}
  where
    out : is_in b blocks ≡ false
    out = elim (cases_Bool (is_in b blocks)) [
      | inl e ↦ absurd (false≢true (sym none ∙ ap is_some (table.numbered b) ∙ rw e refl))
      | inr e ↦ e
    ]

    numbered : (q : BlockId) → get ghosts.eq next q ≡ number_in (blocks ++ b ∷ []) q
    numbered q = elim (same_tells q b) [
      | inl p ↦
          let here : get ghosts.eq next b ≡ Some more = updates b ∙ rw (eq_same b b, same_self b) refl in
          subst (λ (x : BlockId). get ghosts.eq next x ≡ number_in (blocks ++ b ∷ []) x) (sym p.1)
          (here ∙ ap Some (counted ∙ ap (λ (n : ℕ). n + core_count b) table.counted) ∙ sym (number_new blocks b out))
      | inr p ↦
          let apart : same_block b q ≡ false = elim (same_tells b q) [ inl r ↦ absurd (p.1 (sym r.1)) | inr r ↦ r.0 ] in
          updates q ∙ rw (eq_same b q, apart) (table.numbered q) ∙ sym (number_old blocks q b p.0)
    ]
