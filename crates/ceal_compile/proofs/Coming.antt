-- What an input comes to.
use Rattle.std.proofs.Common.{◌≡◌, ◌⊎◌, inl, inr, ◌<◌, ◌^◌, Bool, true, false, Err, List, [], ◌∷◌, ◌++◌, ℕ, length, refl}
use Rattle.ceal_base.specs.declared.fault.Fault.{Fault}
use Rattle.ceal_base.specs.declared.syntax.Tree.{Tree}
use Rattle.ceal_lex.specs.declared.parts.Split.{Split}
use Rattle.ceal_lex.specs.declared.token.Token.{Token}
use Rattle.ceal_lex.specs.Faults.{IsFirstFault as IsFirstMisspelling}
use Rattle.ceal_lex.specs.Parts.{IsSplit, source_of}
use Rattle.ceal_lex.specs.Tokens.{AreTokens, IsEnded, last_token, tokens_from}
use Rattle.ceal_grammar.specs.Faults.{Accepts, IsFirstFault}
use Rattle.ceal_compile.specs.Phases.{settled, TokensCome}
use Rattle.ceal_compile.specs.Source.{PartComes, Comes}
use Rattle.ceal_compile.proofs.Answering.{Answer}

-- the last token of a source is an end
last_ends : (marked : Bool) (n : ℕ) (tokens before : List Token) → tokens ≡ before ++ last_token marked n ∷ [] → IsEnded tokens
last_ends true n tokens before e = record { before = before; last = last_token true n; whole = e; kind = inl refl }
last_ends false n tokens before e = record { before = before; last = last_token false n; whole = e; kind = inr refl }

module _ (split : (input : List ℕ) → length input < 2 ^ 32 → (p : Split) × IsSplit input p)
    (lexed : (source : List ℕ) (marked : Bool) → ((ts : List Token) × AreTokens source marked ts) ⊎ ((f : Fault) × IsFirstMisspelling source f))
    (parsed : (ts : List Token) → IsEnded ts → ((tree : Tree) × Accepts ts tree) ⊎ ((f : Fault) × IsFirstFault ts f)) where
  tokens_come : (ts : List Token) → IsEnded ts → (r : Answer) × TokensCome ts r
  tokens_come ts ended = elim (parsed ts ended) [
    | inl p ↦ (settled p.0, inr (record { tree = p.0; accepted = p.1; same = refl }))
    | inr f ↦ (Err f.0, inl (record { fault = f.0; stands = f.1; same = refl }))
  ]

  part_comes : (input : List ℕ) (part : Split) → (r : Answer) × PartComes input part r
  part_comes input part = elim (lexed (source_of input part) part.marked) [
    | inl l ↦
        let c = tokens_come l.0 (last_ends part.marked (length (source_of input part)) l.0 (tokens_from 0 l.1.pieces) l.1.same) in
        (c.0, inr (record { tokens = l.0; lexed = l.1; come = c.1 }))
    | inr f ↦ (Err f.0, inl (record { fault = f.0; stands = f.1; same = refl }))
  ]

  pub some_answer : (input : List ℕ) → length input < 2 ^ 32 → (r : Answer) × Comes input r
  some_answer input small =
      let part = split input small in
      let c = part_comes input part.0 in
      (c.0, record { part = part.0; split = part.1; comes = c.1 })
