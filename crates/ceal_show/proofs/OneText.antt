-- The blocks that are reached, and so the text, are determined.
use Rattle.std.proofs.Common.{◌≡◌, ℕ, List, [], ◌∷◌, ◌++◌, Some, refl, sym, ap, ◌∙◌, subst, inl, inr}
use Rattle.std.specs.Prelude.{◌⊎◌, IsTrue, codes}
use Rattle.std.specs.List.{AllZip}
use Rattle.std.proofs.lemmas.Bool.{false≢true}
use Rattle.ceal_base.specs.declared.typed.StructInfo.{StructInfo}
use Rattle.ceal_base.specs.declared.word.BlockId.{BlockId}
use Rattle.ceal_show.specs.Graph.{Scene, lines_text, IsGraphText}
use Rattle.ceal_show.specs.Paths.{is_in, IsPath, IsLess, IsBelow, AreRising, IsPathOf, AreReached}
use Rattle.ceal_show.specs.Shown.{Shown}
use Rattle.ceal_show.proofs.PathOrder.{less_trans, less_irrefl, less_total}
use Rattle.ceal_show.proofs.Same.{same_tells}

leads_one : (memory : Shown) (path : List ℕ) (a b c : BlockId) → IsPath memory a path b → IsPath memory a path c → b ≡ c
unfolding IsPath
leads_one memory [] a b c h k = sym h ∙ k
leads_one memory (field ∷ path) a b c (d, e, h) (d', f, k) =
    let g : Some d ≡ Some d' = sym e ∙ f in
    let same : d ≡ d' = cc in
    leads_one memory path d' b c (subst (λ (x : BlockId). IsPath memory x path b) same h) k

abbrev HasPath : List ℕ → List (List ℕ) → Type 0
HasPath p [] = ⊥
HasPath p (q ∷ qs) = (p ≡ q) ⊎ HasPath p qs

above : (p : List ℕ) (qs : List (List ℕ)) → IsBelow p qs → AreRising qs → (r : List ℕ) → HasPath r qs → IsLess p r
above p [] h k r x = absurd x
above p (q ∷ qs) h k r (inl e) = subst (IsLess p) (sym e) h
above p (q ∷ qs) h k r (inr x) = less_trans p q r h (above q qs k.0 k.1 r x)

-- rising lists with the same paths are one
same_rising : (ps qs : List (List ℕ)) → AreRising ps → AreRising qs → ((r : List ℕ) → HasPath r ps → HasPath r qs) → ((r : List ℕ) → HasPath r qs → HasPath r ps) → ps ≡ qs
same_rising [] [] h k f g = refl
same_rising [] (q ∷ qs) h k f g = absurd (g q (inl refl))
same_rising (p ∷ ps) [] h k f g = absurd (f p (inl refl))
same_rising (p ∷ ps) (q ∷ qs) h k f g =
    let first : p ≡ q = elim (f p (inl refl)) [
      | inl e ↦ e
      | inr x ↦ elim (g q (inl refl)) [
        | inl e ↦ sym e
        | inr y ↦ absurd (less_irrefl p (less_trans p q p (above p ps h.0 h.1 q y) (above q qs k.0 k.1 p x)))
      ]
    ] in
    let rest : ps ≡ qs = same_rising ps qs h.1 k.1 (rest_in ps qs p q (sym first) h (λ r x. f r (inr x))) (rest_in qs ps q p first k (λ r x. g r (inr x))) in
    cc
  where
    rest_in : (ps qs : List (List ℕ)) (p q : List ℕ) → q ≡ p → AreRising (p ∷ ps) → ((r : List ℕ) → HasPath r ps → HasPath r (q ∷ qs)) → (r : List ℕ) → HasPath r ps → HasPath r qs
    rest_in ps qs p q e h f r x = elim (f r x) [
      | inl i ↦ absurd (less_irrefl p (subst (IsLess p) (i ∙ e) (above p ps h.0 h.1 r x)))
      | inr y ↦ y
    ]

module _ (memory : Shown) (root : BlockId) where
  one_path : (b : BlockId) (p q : List ℕ) → IsPathOf memory root b p → IsPathOf memory root b q → p ≡ q
  one_path b p q h k = elim (less_total p q) [
    | inl e ↦ e
    | inr (inl l) ↦ absurd (k.least p h.leads l)
    | inr (inr l) ↦ absurd (h.least q k.leads l)
  ]

  record Owns (blocks : List BlockId) (p : List ℕ) : Type 0 where
    block : BlockId
    path : IsPathOf memory root block p

  owner : (blocks : List BlockId) (ps : List (List ℕ)) → AllZip (IsPathOf memory root) blocks ps → (p : List ℕ) → HasPath p ps → Owns blocks p
  owner [] [] z p x = absurd x
  owner [] (q ∷ qs) z p x = absurd z
  owner (b ∷ blocks) [] z p x = absurd z
  owner (b ∷ blocks) (q ∷ qs) z p (inl e) = record { block = b; path = subst (IsPathOf memory root b) (sym e) z.0 }
  owner (b ∷ blocks) (q ∷ qs) z p (inr x) = let o = owner blocks qs z.1 p x in record { block = o.block; path = o.path }

  path_in : (blocks : List BlockId) (ps : List (List ℕ)) → AllZip (IsPathOf memory root) blocks ps → (b : BlockId) → IsTrue (is_in b blocks) → (p : List ℕ) × HasPath p ps × IsPathOf memory root b p
  path_in [] ps z b h = absurd (false≢true h)
  path_in (c ∷ blocks) [] z b h = absurd z
  path_in (c ∷ blocks) (q ∷ qs) z b h = elim (same_tells b c) [
    | inl e ↦ (q, inl refl, subst (λ (x : BlockId). IsPathOf memory root x q) (sym e.1) z.0)
    | inr e ↦ let r = path_in blocks qs z.1 b (rw e.0 at h) in (r.0, inr r.1, r.2)
  ]

  also : (blocks others : List BlockId) (r : AreReached memory root blocks) (s : AreReached memory root others) → (p : List ℕ) → HasPath p r.paths → HasPath p s.paths
  also blocks others r s p x =
      let o = owner blocks r.paths r.each p x in
      let k = path_in others s.paths s.each o.block (s.all o.block p o.path.leads) in
      subst (λ (q : List ℕ). HasPath q s.paths) (one_path o.block k.0 p k.2 o.path) k.1

  same_blocks : (blocks others : List BlockId) (ps : List (List ℕ)) → AllZip (IsPathOf memory root) blocks ps → AllZip (IsPathOf memory root) others ps → blocks ≡ others
  same_blocks [] [] ps z y = refl
  same_blocks [] (c ∷ others) [] z y = absurd y
  same_blocks [] (c ∷ others) (p ∷ ps) z y = absurd z
  same_blocks (b ∷ blocks) [] [] z y = absurd z
  same_blocks (b ∷ blocks) [] (p ∷ ps) z y = absurd y
  same_blocks (b ∷ blocks) (c ∷ others) [] z y = absurd z
  same_blocks (b ∷ blocks) (c ∷ others) (p ∷ ps) z y =
      let first = leads_one memory p root b c z.0.leads y.0.leads in
      let rest = same_blocks blocks others ps z.1 y.1 in
      cc

  one_order : (blocks others : List BlockId) → AreReached memory root blocks → AreReached memory root others → blocks ≡ others
  one_order blocks others r s =
      let e = same_rising r.paths s.paths r.rising s.rising (also blocks others r s) (also others blocks s r) in
      same_blocks blocks others s.paths (subst (AllZip (IsPathOf memory root) blocks) e r.each) s.each

pub one_graph : (structs : List StructInfo) (memory : Shown) (name : ℕ → List ℕ) (root : BlockId) (text other : List ℕ)
    → IsGraphText structs memory name root text → IsGraphText structs memory name root other → text ≡ other
one_graph structs memory name root text other h k =
    let e = one_order memory root h.blocks k.blocks h.reached k.reached in
    h.is_text ∙ ap (λ (b : List BlockId). let scene : Scene = record { structs = structs; memory = memory; name = name; blocks = b } in lines_text scene b ++ codes "end\n") e ∙ sym k.is_text
