-- The place of a first fault is in the text, or at its end.
use Rattle.std.proofs.Common.{◌≡◌, ◌≤◌, ℕ, zero, suc, inl, inr, Option, Some, None, Result, Ok, Err, List, [], ◌∷◌, ◌++◌, length, take, slice_get, ap, refl, sym, subst, arith}
use Rattle.ceal_base.specs.declared.fault.Fault.{Fault}
use Rattle.ceal_base.specs.declared.fault.Span.{Span}
use Rattle.ceal_base.specs.declared.syntax.Tree.{Tree}
use Rattle.ceal_base.specs.declared.typed.Typed.{Typed}
use Rattle.ceal_flow.specs.Lowering.{BLOCKS, function_places, lowered_at}
use Rattle.ceal_grammar.specs.Faults.{Accepts}
use Rattle.ceal_lex.specs.Parts.{source_of}
use Rattle.ceal_lex.specs.declared.token.Token.{Token}
use Rattle.ceal_types.specs.Checked.{checked}
use Rattle.ceal_types.specs.Laws.{FirstFaultLaw, ResolvedLaw}
use Rattle.ceal_usage.specs.Faults.{usage_faults}
use Rattle.ceal_usage.specs.Verdict.{verdict}
use Rattle.ceal_compile.specs.Phases.{counted, ruled, TokensCome}
use Rattle.ceal_compile.specs.Source.{IsFirstFault, PartComes}
use Rattle.ceal_serve.proofs.Places.BlocksNear.{blocks-near, item-near}
use Rattle.ceal_serve.proofs.Places.Near.{Near, Each, FaultNear, FunctionNear, TreeIsNear}
use Rattle.ceal_serve.proofs.Places.TokensNear.{TokenNear, tokens-near}
use Rattle.ceal_serve.proofs.Places.TreeNear.{tree-near}
use Rattle.ceal_serve.proofs.Places.TypeFaultsNear.{type-fault-near}
use Rattle.ceal_serve.proofs.Places.TypedNear.{program-near}
use Rattle.ceal_serve.proofs.Places.UsageFaultsNear.{usage-near}

-- no program, but this fault
abbrev failed : Fault → Result Typed Fault
failed f = Err f

same-fault : (f g : Fault) → failed f ≡ failed g → g ≡ f
same-fault f g e = cc

take-shorter : (n : ℕ) (xs : List ℕ) → length (take n xs) ≤ length xs
take-shorter zero xs = omega arith
take-shorter (suc n) [] = omega arith
take-shorter (suc n) (x ∷ xs) = let h = take-shorter n xs in omega (arith, h)

token-among : (n : ℕ) (before later : List Token) (t : Token) → Each (TokenNear n) (before ++ t ∷ later) → TokenNear n t
unfolding Each
token-among n [] later t h = h.0
token-among n (b ∷ before) later t h = token-among n before later t h.1

module _ (first : FirstFaultLaw) (resolved : ResolvedLaw) (n : ℕ) (f : Fault) where
  -- the limit of blocks
  limit-near : (p : Typed) (at : Option Span) → slice_get (function_places p.functions) BLOCKS ≡ at → Each (FunctionNear n) p.functions
      → failed f ≡ elim (lowered_at p at) [ Ok g ↦ Ok p | Err g ↦ Err g ] → FaultNear n f
  limit-near p None is h e = cc
  limit-near p (Some at) is h e = subst (FaultNear n) (same-fault f _ e) (item-near (Near n) (function_places p.functions) BLOCKS at is (blocks-near n p.functions h))

  -- usage, and then the limit
  rules-near : (p : Typed) (fs : List Fault) → Each (FaultNear n) fs → Each (FunctionNear n) p.functions
      → failed f ≡ elim (verdict fs) [ Ok u ↦ counted p | Err g ↦ Err g ] → FaultNear n f
  unfolding Each
  rules-near p [] k h e = limit-near p (slice_get (function_places p.functions) BLOCKS) refl h e
  rules-near p (g ∷ fs) k h e = subst (FaultNear n) (same-fault f g e) k.0

  -- names and types, and then these
  settled-near : (tree : Tree) (r : Result Typed Fault) → checked tree ≡ r → (ts : List Token) → Accepts ts tree → Each (TokenNear n) ts
      → failed f ≡ elim r [ Ok p ↦ ruled p | Err g ↦ Err g ] → FaultNear n f
  settled-near tree (Ok p) is ts a h e =
      let near = program-near n tree p (subst (TreeIsNear n) a.same (tree-near n a.program ts a.tokens h)) (resolved tree p is) in
      rules-near p (usage_faults p) (usage-near n p near) near e
  settled-near tree (Err g) is ts a h e =
      subst (FaultNear n) (same-fault f g e) (type-fault-near n tree g (subst (TreeIsNear n) a.same (tree-near n a.program ts a.tokens h)) ((first tree g).0 is))

  come-near : (ts : List Token) → Each (TokenNear n) ts → TokensCome ts (Err f) → FaultNear n f
  come-near ts h (inl m) =
      let at : TokenNear n m.stands.at = token-among n m.stands.before m.stands.later m.stands.at (subst (Each (TokenNear n)) m.stands.tokens h) in
      let near : FaultNear n m.fault = subst (Near n) (sym m.stands.span) at in
      subst (FaultNear n) (same-fault f m.fault m.same) near
  come-near ts h (inr p) = settled-near p.tree (checked p.tree) refl ts p.accepted h p.same

module _ (first : FirstFaultLaw) (resolved : ResolvedLaw) (input : List ℕ) (f : Fault) where
  pub first-place : IsFirstFault input f → f.span.from ≤ length input
  first-place c = let short = take-shorter c.part.source.to input in let near = in-part c.comes in omega (arith, short, near)
    where
      in-part : PartComes input c.part (Err f) → f.span.from ≤ length (source_of input c.part)
      in-part (inl m) =
          let span = ap (λ (s : Span). s.from) m.stands.span in
          let same = ap (λ (g : Fault). g.span.from) (same-fault f m.fault m.same) in
          let place = m.stands.place in
          omega (arith, span, same, place)
      in-part (inr l) = come-near first resolved (length (source_of input c.part)) f l.tokens (tokens-near (source_of input c.part) c.part.marked l.tokens l.lexed) l.come
