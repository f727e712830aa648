-- What is looked up in a plan.
use Rattle.std.proofs.Common.{◌≡◌, ◌⊎◌, inl, inr, ℕ, zero, suc, ◌<◌, ◌≤◌, Some, List, [], ◌∷◌, ◌++◌, length, slice_get, Contains, refl, ap, sym, subst, ◌∙◌, arith, length-append}
use Rattle.std.proofs.lemmas.List.Elements.{Contains-push, Contains-append_left, Contains-append_right}
use Rattle.ceal_flow.specs.Laws.{firsts}
use Rattle.ceal_flow.specs.Program.{Graph}
use Rattle.ceal_flow.specs.declared.block.GraphBlock.{GraphBlock}
use Rattle.ceal_flow.specs.declared.block.GraphBlock.TheVariants.{Done, Test, Act, Unreached}
use Rattle.ceal_flow.specs.declared.function.GraphFunction.{GraphFunction}
use Rattle.ceal_flow.specs.declared.function.GraphFunction.TheVariants.{Core, Init}
use Rattle.ceal_flow.proofs.ListFacts.{get-append_left, get-append_right}
use Rattle.ceal_norm.specs.Body.{onward}
use Rattle.ceal_norm.specs.Laws.{IsClosed, IsGraph}
use Rattle.ceal_norm.specs.Table.{entry_at, table, JumpsBelow, BeginsBelow, Planned}
use Rattle.ceal_norm.specs.Units.{Source, block_code, tree}
use Rattle.ceal_norm.specs.declared.entries.Entry.{Entry}
use Rattle.ceal_norm.proofs.Jumps.JumpsLeadToBlocks.{graph-closed, first-there}
use Rattle.ceal_norm.proofs.Jumps.ForwardJumps.{graph-forward}
use Rattle.ceal_norm.proofs.Jumps.TreesUnfold.{tree-block}

table-length : (g : Graph) (n : ℕ) → length (table g n) ≡ n
unfolding table
table-length g zero = refl
table-length g (suc n) = let h = table-length g n in simp length-append (omega (arith, h))

order-of : (b n : ℕ) → (b < n) ⊎ (n ≤ b)
order-of b zero = inr (omega arith)
order-of zero (suc n) = inl (omega arith)
order-of (suc b) (suc n) = elim (order-of b n) [ inl h ↦ inl (omega (arith, h)) | inr h ↦ inr (omega (arith, h)) ]

table-get : (g : Graph) (n b : ℕ) → b < n → slice_get (table g n) b ≡ Some (entry_at g b)
unfolding table
table-get g zero b l = absurd (omega (arith, l))
table-get g (suc n) b l = go (order-of b n) (λ h. table-get g n b h)
  where
    go : (b < n) ⊎ (n ≤ b) → (b < n → slice_get (table g n) b ≡ Some (entry_at g b)) → slice_get (table g n ++ entry_at g n ∷ []) b ≡ Some (entry_at g b)
    go (inl h) k = let long = table-length g n in get-append_left (table g n) (entry_at g n ∷ []) b (omega (arith, h, long)) ∙ k h
    go (inr h) k =
        let long = table-length g n in
        let same : b ≡ n = omega (arith, h, l) in
        get-append_right (table g n) (entry_at g n ∷ []) b 0 (omega (arith, h, l, long)) ∙ ap (λ k. Some (entry_at g k)) (sym same)

some-same : {A : Type 0} (a b : A) → Some a ≡ Some b → a ≡ b
some-same a b e = cc

module _ (g : Graph) (entries : List Entry) (p : Planned g entries) (b : ℕ) where
  pub entry-there : b < length g.blocks → b < length entries
  entry-there l = let long = ap length p.same ∙ table-length g (length g.blocks) in omega (arith, long, l)

  pub entry-is : (e : Entry) → b < length g.blocks → slice_get entries b ≡ Some e → e ≡ entry_at g b
  entry-is e l h = some-same e (entry_at g b) (sym h ∙ ap (λ es. slice_get es b) p.same ∙ table-get g (length g.blocks) b l)

  pub jumps-below : (block : GraphBlock) → slice_get g.blocks b ≡ Some block → JumpsBelow (length g.blocks) block
  jumps-below Done h = tt
  jumps-below (Test test first second) h = (
    p.closed b first (rw h (Contains-append_left (first ∷ []) (second ∷ []) first (Contains-push [] first))),
    p.closed b second (rw h (Contains-append_right (first ∷ []) (second ∷ []) second (Contains-push [] second))),
  )
  jumps-below (Act s next) h = p.closed b next (rw h (Contains-push [] next))
  jumps-below Unreached h = tt

firsts-contain : (fs : List GraphFunction) (f : ℕ) (n : ℕ) (function : GraphFunction) → slice_get fs f ≡ Some function
    → ((b : ℕ) → Contains (firsts fs) b → b < n) → BeginsBelow n function
firsts-contain [] f n function e h = cc
firsts-contain (Core name first params kinds ∷ fs) zero n function e h =
    let same : Core name first params kinds ≡ function = cc in
    subst (BeginsBelow n) same (h first (Contains-append_left (first ∷ []) (firsts fs) first (Contains-push [] first)))
firsts-contain (Init i ∷ fs) zero n function e h = let same : Init i ≡ function = cc in subst (BeginsBelow n) same tt
firsts-contain (Core name first params kinds ∷ fs) (suc f) n function e h =
    firsts-contain fs f n function e (λ b k. h b (Contains-append_right (first ∷ []) (firsts fs) b k))
firsts-contain (Init i ∷ fs) (suc f) n function e h = firsts-contain fs f n function e h

pub begins-below : (g : Graph) (entries : List Entry) → Planned g entries → (f : ℕ) (function : GraphFunction)
    → slice_get g.functions f ≡ Some function → BeginsBelow (length g.blocks) function
begins-below g entries p f function e = firsts-contain g.functions f (length g.blocks) function e p.begins

pub tree-of : (s : Source) (entries : List Entry) → Planned s.graph entries → (b : ℕ) (block : GraphBlock)
    → b < length s.graph.blocks → slice_get s.graph.blocks b ≡ Some block
    → (i : ℕ) → tree s (length s.graph.blocks) b i ≡ block_code s (onward s) i (Some block)
tree-of s entries p b block l e i = tree-block s p.closed p.forward b i l ∙ ap (block_code s (onward s) i) e

pub planned : (g : Graph) (entries : List Entry) → IsGraph g → entries ≡ table g (length g.blocks) → Planned g entries
planned g entries is e =
    let back = sym is.1 in
    record {
      same = e;
      closed = subst IsClosed back (graph-closed is.0);
      forward = rw is.1 (graph-forward is.0);
      begins = rw is.1 (first-there is.0);
    }
