-- A source has one list of tokens at most, or one first fault, and not both.
use Rattle.std.proofs.Common.{◌≡◌, ℕ, ◌+◌, Bool, List, [], ◌∷◌, ◌++◌, length, refl, sym, ap, ◌∙◌, arith}
use Rattle.ceal_base.specs.declared.fault.Fault.{Fault}
use Rattle.ceal_base.specs.declared.fault.FaultCode.{FaultCode}
use Rattle.ceal_base.specs.declared.fault.Span.{Span}
use Rattle.ceal_lex.specs.declared.token.Token.{Token}
use Rattle.ceal_lex.specs.Pieces.{Piece, spelled, Stand}
use Rattle.ceal_lex.specs.Tokens.{AreTokens, last_token, span, tokens_from}
use Rattle.ceal_lex.specs.Faults.{IsFirstFault}
use Rattle.ceal_lex.proofs.Fronts.{same_front, Stops, stops_at_end, stops_at_fault, same_fault, fault_not_empty}

module _ (r s : List ℕ) (stop : Stops r) (stop' : Stops s) where
  same_pieces : (ps qs : List Piece) → spelled ps r ≡ spelled qs s → Stand ps r → Stand qs s → (ps ≡ qs) × (r ≡ s)
  unfolding spelled Stand
  same_pieces [] [] h a b = (refl, h)
  same_pieces [] (q ∷ qs) h a b = absurd (stop q (spelled qs s) b.0 (sym h))
  same_pieces (p ∷ ps) [] h a b = absurd (stop' p (spelled ps r) a.0 h)
  same_pieces (p ∷ ps) (q ∷ qs) h a b =
      let f = same_front (spelled ps r) (spelled qs s) p q h a.0 b.0 in
      let g = same_pieces ps qs f.1 a.1 b.1 in
      (cc (f.0, g.0), g.1)

same_record : (f g : Fault) → f.code ≡ g.code → f.span ≡ g.span → f ≡ g
same_record f g c s =
    ap (λ (k : FaultCode). record { code = k; span = f.span }) c ∙ ap (λ (k : Span). record { code = g.code; span = k }) s

module _ (source : List ℕ) where
  pub one_list : (marked : Bool) (ts us : List Token) → AreTokens source marked ts → AreTokens source marked us → ts ≡ us
  one_list marked ts us a b =
      let p = same_pieces [] [] stops_at_end stops_at_end a.pieces b.pieces (a.spelled ∙ sym b.spelled) a.stand b.stand in
      a.same ∙ ap (λ (ps : List Piece). tokens_from 0 ps ++ last_token marked (length source) ∷ []) p.0 ∙ sym b.same

  pub one_fault : (f g : Fault) → IsFirstFault source f → IsFirstFault source g → f ≡ g
  one_fault f g a b =
      let p = same_pieces a.rest b.rest (stops_at_fault a.rest a.count f.code a.stands) (stops_at_fault b.rest b.count g.code b.stands) a.pieces b.pieces (a.spelled ∙ sym b.spelled) a.stand b.stand in
      let e = same_fault a.rest a.count b.count f.code g.code a.stands (rw (sym p.1) at b.stands) in
      let l : length a.rest ≡ length b.rest = ap length p.1 in
      let n : a.at ≡ b.at = omega (arith, a.place, b.place, l) in
      let s : f.span ≡ g.span = a.span ∙ ap (λ (k : ℕ). span k (k + a.count)) n ∙ ap (λ (k : ℕ). span b.at (b.at + k)) e.1 ∙ sym b.span in
      same_record f g e.0 s

  pub not_both : (marked : Bool) (ts : List Token) (f : Fault) → AreTokens source marked ts → IsFirstFault source f → ⊥
  not_both marked ts f a b =
      let p = same_pieces [] b.rest stops_at_end (stops_at_fault b.rest b.count f.code b.stands) a.pieces b.pieces (a.spelled ∙ sym b.spelled) a.stand b.stand in
      fault_not_empty b.count f.code (rw (sym p.1) at b.stands)
