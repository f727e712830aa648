-- From what was read to what `lex` promises.
use Rattle.ceal_lex.specs.Characters.{STAR, SLASH}
use Rattle.ceal_base.specs.declared.fault.Span.{Span}
use Rattle.std.proofs.Common.{◌≡◌, ℕ, ◌+◌, ◌≤◌, Bool, true, false, Result, Ok, Err, IfOk, List, [], ◌∷◌, ◌++◌, length, refl, ap, ◌∙◌, arith, inl, inr}
use Rattle.std.proofs.lemmas.List.{length-append, length-take-le}
use Rattle.ceal_base.specs.declared.fault.Fault.{Fault}
use Rattle.ceal_base.specs.declared.fault.FrontError.{FrontError}
use Rattle.ceal_base.specs.declared.fault.FrontError.TheVariants.{Memory, Fault as FaultError}
use Rattle.ceal_lex.specs.declared.parts.Split.{Split}
use Rattle.ceal_lex.specs.declared.token.Token.{Token}
use Rattle.ceal_base.specs.Answers.{Gives, IfFault}
use Rattle.ceal_lex.specs.Faults.{IsFirstFault}
use Rattle.ceal_lex.specs.Parts.{IsSplit, PartsAre, source_of}
use Rattle.ceal_lex.specs.Pieces.{Piece, space, line_comment, block_comment, token, spelled}
use Rattle.ceal_lex.specs.Reading.{Reads}
use Rattle.ceal_lex.specs.Tokens.{AreTokens, last_token, InOrder, IsEnded, tokens_from}
use Rattle.ceal_lex.proofs.Readings.{one_list, one_fault, not_both}

parts_within : (marked : Bool) (input : List ℕ) (part : Split) → PartsAre marked input part → part.source.to ≤ length input
parts_within true input part h =
    let e = ap (λ (s : Span). s.to) h.source in
    let m = h.first.mark in
    let l = ap length m.whole ∙ length-append h.before (m.line ++ h.after) in
    omega (arith, e, l)
parts_within false input part h =
    let e = ap (λ (s : Span). s.to) h.source in
    omega (arith, e)

pub source_within : (input : List ℕ) (part : Split) → IsSplit input part → part.source.to ≤ length input
source_within input part h = parts_within part.marked input part h.parts

pub source_length : (input : List ℕ) (part : Split) → IsSplit input part → length (source_of input part) ≡ part.source.to
source_length input part h = length-take-le part.source.to input (source_within input part h)

-- one token more, the last
pub with_ending : (source : List ℕ) (marked : Bool) (ts : List Token) → Reads source [] ts → AreTokens source marked (ts ++ last_token marked (length source) ∷ [])
with_ending source marked ts r = record {
  pieces = r.pieces;
  stand = r.stand;
  spelled = r.spelled;
  same = ap (λ (us : List Token). us ++ last_token marked (length source) ∷ []) r.same;
}

module _ (source : List ℕ) (marked : Bool) where
  pub all_from : (r : Result (List Token) FrontError) → IfOk r (λ ts. AreTokens source marked ts) → IfFault r (λ f. IsFirstFault source f)
      → (ts : List Token) → AreTokens source marked ts → Gives r (Ok ts)
  all_from (Ok us) found fault ts a = ap Ok (one_list source marked ts us a found)
  all_from (Err Memory) found fault ts a = tt
  all_from (Err (FaultError f)) found fault ts a = absurd (not_both source marked ts f a fault)

  pub only_from : (r : Result (List Token) FrontError) → IfOk r (λ ts. AreTokens source marked ts) → IfFault r (λ f. IsFirstFault source f)
      → (f : Fault) → IsFirstFault source f → Gives r (Err f)
  only_from (Ok us) found fault f a = absurd (not_both source marked us f found a)
  only_from (Err Memory) found fault f a = tt
  only_from (Err (FaultError g)) found fault f a = ap Err (one_fault source f g a fault)

ended : (source : List ℕ) (marked : Bool) (ts : List Token) → AreTokens source marked ts → IsEnded ts
ended source true ts a = record { before = tokens_from 0 a.pieces; last = last_token true (length source); whole = a.same; kind = inl refl }
ended source false ts a = record { before = tokens_from 0 a.pieces; last = last_token false (length source); whole = a.same; kind = inr refl }

in_order : (ps : List Piece) (from at to : ℕ) (marked : Bool) → from ≤ at → at + length (spelled ps []) ≡ to → InOrder from to (tokens_from at ps ++ last_token marked to ∷ [])
unfolding spelled tokens_from
in_order [] from at to marked h e = (omega (arith, h, e), omega arith, omega arith)
in_order (space b ∷ ps) from at to marked h e = in_order ps from (at + 1) to marked (omega (arith, h)) (omega (arith, e))
in_order (line_comment t ∷ ps) from at to marked h e =
    let l = length-append t (spelled ps []) in
    in_order ps from (at + (2 + length t)) to marked (omega (arith, h)) (omega (arith, e, l))
in_order (block_comment t ∷ ps) from at to marked h e =
    let l = length-append t (STAR ∷ SLASH ∷ spelled ps []) in
    in_order ps from (at + (4 + length t)) to marked (omega (arith, h)) (omega (arith, e, l))
in_order (token k t ∷ ps) from at to marked h e =
    let l = length-append t (spelled ps []) in
    (h, omega arith, in_order ps (at + length t) (at + length t) to marked (omega arith) (omega (arith, e, l)))

order : (source : List ℕ) (marked : Bool) (to : ℕ) (ts : List Token) → length source ≡ to → AreTokens source marked ts → InOrder 0 to ts
order source marked to ts e a =
    let l = ap length a.spelled in
    let o = in_order a.pieces 0 0 (length source) marked (omega arith) (omega (arith, l)) in
    rw (← e) (rw a.same o)

pub ended_from : (source : List ℕ) (marked : Bool) (r : Result (List Token) FrontError) → IfOk r (λ ts. AreTokens source marked ts) → IfOk r (λ ts. IsEnded ts)
ended_from source marked (Ok ts) a = ended source marked ts a
ended_from source marked (Err e) a = tt

pub order_from : (source : List ℕ) (marked : Bool) (to : ℕ) (r : Result (List Token) FrontError) → length source ≡ to → IfOk r (λ ts. AreTokens source marked ts)
    → IfOk r (λ ts. InOrder 0 to ts)
order_from source marked to (Ok ts) e a = order source marked to ts e a
order_from source marked to (Err x) e a = tt
