-- Each phrase is read.
use Rattle.std.proofs.Common.{◌≡◌, ℕ, suc, ◌<◌, ◌≤◌, true, false, Some, List, [], ◌∷◌, refl, ap, ◌∙◌, arith}
use Rattle.std.specs.Prelude.{nat_le}
use Rattle.std.proofs.lemmas.Bool.Decides.{nat_tests}
use Rattle.ceal_base.specs.declared.fault.Span.{Span}
use Rattle.ceal_base.specs.declared.operators.Unary.TheVariants.{Neg, Not}
use Rattle.ceal_base.specs.declared.operators.Binary.{Binary as BinaryOp}
use Rattle.ceal_base.specs.declared.operators.Binary.TheVariants.{Add, Sub, Mul, Div, Rem, Less, LessEq, More, MoreEq, Same, Differ, And, Or, Pick}
use Rattle.ceal_base.specs.declared.syntax.Entry.{Entry}
use Rattle.ceal_base.specs.declared.syntax.Expr.{Expr}
use Rattle.ceal_lex.specs.declared.token.Sign.{Sign as SignOf}
use Rattle.ceal_lex.specs.declared.token.Sign.TheVariants as Signs
use Rattle.ceal_lex.specs.declared.token.TokenKind.TheVariants.{Sign}
use Rattle.ceal_grammar.specs.declared.state.Frame.{Frame}
use Rattle.ceal_grammar.specs.declared.state.Frame.TheVariants.{Open, Prefix, Address as AddressOf, Index, Left}
use Rattle.ceal_grammar.specs.declared.state.Inside.{Inside}
use Rattle.ceal_grammar.specs.declared.state.Piece.{Piece}
use Rattle.ceal_grammar.specs.declared.state.Place.{Place}
use Rattle.ceal_grammar.specs.declared.state.Place.TheVariants.{Want, Post, Have, Element, Access}
use Rattle.ceal_grammar.specs.declared.state.Receiver.{Receiver}
use Rattle.ceal_grammar.specs.declared.state.State.{State}
use Rattle.ceal_grammar.specs.declared.state.Whole.{Whole}
use Rattle.ceal_grammar.specs.Grammar.{Phrase, number, null, variable, own, parens, arrow, prefix, address, element, binary, level, IsInfix, level_of, Grouped}
use Rattle.ceal_grammar.specs.Spelled.{sign_of, after, spelled, Mark}
use Rattle.ceal_grammar.specs.Trees.{first, expression}
use Rattle.ceal_grammar.specs.Machine.{step, reduction, Reduction, within, element_of, closes, operates, at_place, at_sign_after, operator_of, same_sign, same_word, argument_begun, place_item}
use Rattle.ceal_grammar.specs.Follows.{Follows}

abbrev pub piece_of : Phrase → Piece
piece_of c = record { from = first c; expr = expression c }

-- An arrow and an index may be after a phrase that does not end with an index.
unfoldable pub held : Phrase → Piece → Place
held (prefix op s a) p = held a p
held (element s a l b r) p = Element p
held (binary op a s b) p = held b p
held (number v s) p = Have p
held (null s) p = Have p
held (variable x) p = Have p
held (own s) p = Have p
held (parens l a r) p = Have p
held (arrow a s x) p = Have p
held (address s a) p = held a p

-- what a reading holds after the phrase
unfoldable pub pending : Phrase → List Frame → Reduction
pending (prefix op s a) fs = pending a (Prefix op s ∷ fs)
pending (address s a) fs = pending a (AddressOf s ∷ fs)
pending (binary op a s b) fs = pending b (Left (piece_of a) op s ∷ fs)
pending (number v s) fs = record { piece = piece_of (number v s); frames = fs }
pending (null s) fs = record { piece = piece_of (null s); frames = fs }
pending (variable x) fs = record { piece = piece_of (variable x); frames = fs }
pending (own s) fs = record { piece = piece_of (own s); frames = fs }
pending (parens l a r) fs = record { piece = piece_of (parens l a r); frames = fs }
pending (arrow a s x) fs = record { piece = piece_of (arrow a s x); frames = fs }
pending (element s a l b r) fs = record { piece = piece_of (element s a l b r); frames = fs }

abbrev pub whole : ℕ → ℕ → List Frame → Receiver → Whole
whole d n fs r = record { nesting = d; operators = n; frames = fs; receiver = r }

abbrev pub having : Inside → ℕ → Phrase → List Frame → ℕ → Receiver → State
having i d c fs n r = let q = pending c fs in within i (whole d (after c n) q.frames r) (held c q.piece)

-- nothing that waits on top takes a phrase of level l
abbrev pub Stops : ℕ → List Frame → Type 0
Stops l [] = Unit {0}
Stops l (Open s d ∷ fs) = Unit {0}
Stops l (Index s e d ∷ fs) = Unit {0}
Stops l (Prefix op s ∷ fs) = 7 ≤ l
Stops l (AddressOf s ∷ fs) = 8 ≤ l
Stops l (Left a op s ∷ fs) = level op < l

pub stops_above : (l m : ℕ) (fs : List Frame) → l ≤ m → Stops l fs → Stops m fs
stops_above l m [] h st = tt
stops_above l m (Open s d ∷ fs) h st = tt
stops_above l m (Index s e d ∷ fs) h st = tt
stops_above l m (Prefix op s ∷ fs) h st = omega arith
stops_above l m (AddressOf s ∷ fs) h st = omega arith
stops_above l m (Left a op s ∷ fs) h st = omega arith

pub level_low : (op : BinaryOp) → level op ≤ 6
level_low Add = omega arith
level_low Sub = omega arith
level_low Mul = omega arith
level_low Div = omega arith
level_low Rem = omega arith
level_low Less = omega arith
level_low LessEq = omega arith
level_low More = omega arith
level_low MoreEq = omega arith
level_low Same = omega arith
level_low Differ = omega arith
level_low And = omega arith
level_low Or = omega arith
level_low (Pick n) = omega arith

pub reduced_stops : (l : ℕ) (p : Piece) (fs : List Frame) → l ≤ 6 → Stops l fs → reduction l p fs ≡ record { piece = p; frames = fs }
unfolding reduction
reduced_stops l p [] h st = refl
reduced_stops l p (Open s d ∷ fs) h st = refl
reduced_stops l p (Index s e d ∷ fs) h st = refl
reduced_stops l p (Prefix op s ∷ fs) h st = absurd (omega arith)
reduced_stops l p (AddressOf s ∷ fs) h st = absurd (omega arith)
reduced_stops l p (Left a op s ∷ fs) h st =
    let t : nat_le l (level op) ≡ false = grind (arith, nat_tests) in rw t refl

pub reduced_pending : (l : ℕ) (c : Phrase) (fs : List Frame) → Grouped c → l ≤ 6 → l ≤ level_of c
    → reduction l (pending c fs).piece (pending c fs).frames ≡ reduction l (piece_of c) fs
unfolding reduction pending Grouped expression first
reduced_pending l (number v s) fs g k h = refl
reduced_pending l (null s) fs g k h = refl
reduced_pending l (variable x) fs g k h = refl
reduced_pending l (own s) fs g k h = refl
reduced_pending l (parens o a r) fs g k h = refl
reduced_pending l (arrow a s x) fs g k h = refl
reduced_pending l (prefix op s a) fs g k h = reduced_pending l a (Prefix op s ∷ fs) g.1 k (omega arith)
reduced_pending l (address s a) fs g k h = reduced_pending l a (AddressOf s ∷ fs) g.1 k (omega arith)
reduced_pending l (element s a o b r) fs g k h = refl
reduced_pending l (binary op a s b) fs g k h =
    let t : nat_le l (level op) ≡ true = grind (arith, nat_tests) in
    reduced_pending l b (Left (piece_of a) op s ∷ fs) g.3 k (omega arith) ∙ rw t refl

pub pending_high : (c : Phrase) (fs : List Frame) → 8 ≤ level_of c → pending c fs ≡ record { piece = piece_of c; frames = fs }
unfolding pending
pending_high (number v s) fs h = refl
pending_high (null s) fs h = refl
pending_high (variable x) fs h = refl
pending_high (own s) fs h = refl
pending_high (parens o a r) fs h = refl
pending_high (arrow a s x) fs h = refl
pending_high (prefix op s a) fs h = absurd (omega arith)
pending_high (address s a) fs h = absurd (omega arith)
pending_high (element s a l b r) fs h = absurd (omega arith)
pending_high (binary op a s b) fs h = let k = level_low op in absurd (omega arith)

held_high : (c : Phrase) (p : Piece) → 8 ≤ level_of c → held c p ≡ Have p
unfolding held
held_high (number v s) p h = refl
held_high (null s) p h = refl
held_high (variable x) p h = refl
held_high (own s) p h = refl
held_high (parens o a r) p h = refl
held_high (arrow a s x) p h = refl
held_high (prefix op s a) p h = absurd (omega arith)
held_high (address s a) p h = absurd (omega arith)
held_high (element s a l b r) p h = absurd (omega arith)
held_high (binary op a s b) p h = let k = level_low op in absurd (omega arith)

no_arrow : (op : BinaryOp) → same_sign (sign_of op) Signs.Arrow ≡ false
unfolding same_sign
no_arrow Add = refl
no_arrow Sub = refl
no_arrow Mul = refl
no_arrow Div = refl
no_arrow Rem = refl
no_arrow Less = refl
no_arrow LessEq = refl
no_arrow More = refl
no_arrow MoreEq = refl
no_arrow Same = refl
no_arrow Differ = refl
no_arrow And = refl
no_arrow Or = refl
no_arrow (Pick n) = refl

no_bracket : (op : BinaryOp) → IsInfix op → same_sign (sign_of op) Signs.LeftBracket ≡ false
unfolding same_sign
no_bracket Add h = refl
no_bracket Sub h = refl
no_bracket Mul h = refl
no_bracket Div h = refl
no_bracket Rem h = refl
no_bracket Less h = refl
no_bracket LessEq h = refl
no_bracket More h = refl
no_bracket MoreEq h = refl
no_bracket Same h = refl
no_bracket Differ h = refl
no_bracket And h = refl
no_bracket Or h = refl
no_bracket (Pick n) h = absurd h

pub sign_operator : (op : BinaryOp) → IsInfix op → operator_of (sign_of op) ≡ Some op
sign_operator Add h = refl
sign_operator Sub h = refl
sign_operator Mul h = refl
sign_operator Div h = refl
sign_operator Rem h = refl
sign_operator Less h = refl
sign_operator LessEq h = refl
sign_operator More h = refl
sign_operator MoreEq h = refl
sign_operator Same h = refl
sign_operator Differ h = refl
sign_operator And h = refl
sign_operator Or h = refl
sign_operator (Pick n) h = absurd h

-- no item begins after a phrase
held_item : (w : Whole) (c : Phrase) (p : Piece) → place_item w (held c p) ≡ 0
unfolding held
held_item w (prefix op at a) p = held_item w a p
held_item w (binary op a at b) p = held_item w b p
held_item w (element at a l b r) p = refl
held_item w (number v at) p = refl
held_item w (null at) p = refl
held_item w (variable x) p = refl
held_item w (own at) p = refl
held_item w (parens l a r) p = refl
held_item w (arrow a at x) p = refl
held_item w (address at a) p = held_item w a p

pub no_item : (d : ℕ) (c : Phrase) (fs : List Frame) (n : ℕ) (r : Receiver)
    → let q = pending c fs in place_item (whole d (after c n) q.frames r) (held c q.piece) ≡ 0
no_item d c fs n r = let q = pending c fs in held_item (whole d (after c n) q.frames r) c q.piece

-- a sign after a phrase, other than an arrow and the `[` of an index
pub sign_behind : (i : Inside) (w : Whole) (c : Phrase) (p : Piece) (s : Span) (k : SignOf) → same_sign k Signs.Arrow ≡ false → same_sign k Signs.LeftBracket ≡ false
    → at_place i w (held c p) s (Sign k) ≡ at_sign_after i w p s k (operator_of k)
unfolding held
sign_behind i w (prefix op at a) p s k h g = sign_behind i w a p s k h g
sign_behind i w (binary op a at b) p s k h g = sign_behind i w b p s k h g
sign_behind i w (element at a l b r) p s k h g = refl
sign_behind i w (number v at) p s k h g = rw (h, g) refl
sign_behind i w (null at) p s k h g = rw (h, g) refl
sign_behind i w (variable x) p s k h g = rw (h, g) refl
sign_behind i w (own at) p s k h g = rw (h, g) refl
sign_behind i w (parens l a r) p s k h g = rw (h, g) refl
sign_behind i w (arrow a at x) p s k h g = rw (h, g) refl
sign_behind i w (address at a) p s k h g = sign_behind i w a p s k h g

module _ (i : Inside) (r : Receiver) where
  operating : (d : ℕ) (fs : List Frame) (n : ℕ) (op : BinaryOp) (s : Span) (a : Phrase) → IsInfix op → Grouped a → level op ≤ level_of a → Stops (level op) fs
      → step (having i d a fs n r) (record { kind = Sign (sign_of op); span = s }) ≡ Some (within i (whole d (suc (after a n)) (Left (piece_of a) op s ∷ fs) r) Want)
  operating d fs n op s a o g h st =
      let low = level_low op in let q = pending a fs in
      sign_behind i (whole d (after a n) q.frames r) a q.piece s (sign_of op) (no_arrow op) (no_bracket op o)
      ∙ (ap (at_sign_after i (whole d (after a n) q.frames r) q.piece s (sign_of op)) (sign_operator op o)
      ∙ ap (operates i (whole d (after a n) q.frames r) op s) (reduced_pending (level op) a fs g low h ∙ reduced_stops (level op) (piece_of a) fs low st))

  having_high : (d : ℕ) (a : Phrase) (fs : List Frame) (n : ℕ) → 8 ≤ level_of a
      → having i d a fs n r ≡ within i (whole d (after a n) fs r) (Have (piece_of a))
  having_high d a fs n h =
      ap (λ (q : Reduction). within i (whole d (after a n) q.frames r) (held a q.piece)) (pending_high a fs h)
      ∙ ap (within i (whole d (after a n) fs r)) (held_high a (piece_of a) h)

  closing : (d e : ℕ) (fs : List Frame) (n : ℕ) (o : Span) (a : Phrase) (c : Span) → Grouped a
      → step (having i e a (Open o d ∷ fs) n r) (record { kind = Sign Signs.RightParenthesis; span = c })
      ≡ Some (within i (whole d (after a n) fs r) (Have (record { from = o; expr = expression a })))
  unfolding reduction same_sign
  closing d e fs n o a c g =
      let q = pending a (Open o d ∷ fs) in
      sign_behind i (whole e (after a n) q.frames r) a q.piece c Signs.RightParenthesis refl refl
      ∙ ap (λ (q : Reduction). closes i (whole e (after a n) (pending a (Open o d ∷ fs)).frames r) Signs.RightParenthesis q.piece q.frames)
      (reduced_pending 0 a (Open o d ∷ fs) g (omega arith) (omega arith))

  -- the `]` of an index b
  closing_index : (d e : ℕ) (fs : List Frame) (n : ℕ) (o : Span) (x : Expr) (b : Phrase) (c : Span) → Grouped b
      → step (having i e b (Index o x d ∷ fs) n r) (record { kind = Sign Signs.RightBracket; span = c })
      ≡ Some (within i (whole d (after b n) fs r) (Element (element_of o x (piece_of b))))
  unfolding reduction same_sign
  closing_index d e fs n o x b c g =
      let q = pending b (Index o x d ∷ fs) in
      sign_behind i (whole e (after b n) q.frames r) b q.piece c Signs.RightBracket refl refl
      ∙ ap (λ (q : Reduction). closes i (whole e (after b n) (pending b (Index o x d ∷ fs)).frames r) Signs.RightBracket q.piece q.frames)
      (reduced_pending 0 b (Index o x d ∷ fs) g (omega arith) (omega arith))

  accessing : (d : ℕ) (fs : List Frame) (n : ℕ) (a : Phrase) (s : Span) → 8 ≤ level_of a
      → step (having i d a fs n r) (record { kind = Sign Signs.Arrow; span = s }) ≡ Some (within i (whole d (suc (after a n)) fs r) (Access (piece_of a)))
  unfolding same_sign
  accessing d fs n a s h = ap (λ σ. step σ (record { kind = Sign Signs.Arrow; span = s })) (having_high d a fs n h)

  indexing : (d : ℕ) (fs : List Frame) (n : ℕ) (o : Span) (a : Phrase) (s : Span) → 8 ≤ level_of a
      → step (having i d a (AddressOf o ∷ fs) n r) (record { kind = Sign Signs.LeftBracket; span = s })
      ≡ Some (within i (whole (suc d) (suc (after a n)) (Index o (expression a) d ∷ fs) r) Want)
  unfolding same_sign
  indexing d fs n o a s h = ap (λ σ. step σ (record { kind = Sign Signs.LeftBracket; span = s })) (having_high d a (AddressOf o ∷ fs) n h)

module _ (i : Inside) (r : Receiver) (tree : List Entry) where
  mutual
    unfolding Follows spelled pending held after Grouped first expression same_sign same_word

    pub complete : (d : ℕ) (fs : List Frame) (n : ℕ) (c : Phrase) (rest : List Mark) → Grouped c → Stops (level_of c) fs
        → Follows (having i d c fs n r) rest tree
        → Follows (within i (whole d n fs r) Want) (spelled d (argument_begun fs r) n c rest) tree
    complete d fs n (number v s) rest g st f = (_, refl, refl, refl, refl, f)
    complete d fs n (null s) rest g st f = (_, refl, refl, refl, refl, f)
    complete d fs n (variable x) rest g st f = (_, refl, refl, refl, refl, f)
    complete d fs n (own s) rest g st f = (_, refl, refl, refl, refl, f)
    complete d fs n (parens o a c) rest g st f =
        (_, refl, refl, refl, refl, complete (suc d) (Open o d ∷ fs) n a _ g tt (_, closing i r d (suc d) fs n o a c g, refl, no_item (suc d) a (Open o d ∷ fs) n r, refl, f))
    complete d fs n (arrow a s x) rest g st f =
        complete d fs n a _ g.1 (stops_above 8 _ fs g.0 st)
        (_, accessing i r d fs n a s g.0, refl, no_item d a fs n r, refl, (_, refl, refl, refl, refl, f))
    complete d fs n (prefix Neg s a) rest g st f = (_, refl, refl, refl, refl, complete d (Prefix Neg s ∷ fs) (suc n) a rest g.1 g.0 f)
    complete d fs n (prefix Not s a) rest g st f = (_, refl, refl, refl, refl, complete d (Prefix Not s ∷ fs) (suc n) a rest g.1 g.0 f)
    complete d fs n (address s a) rest g st f = (_, refl, refl, refl, refl, complete_post d (AddressOf s ∷ fs) (suc n) a rest g.1 g.0 g.0 f)
    complete d fs n (element s a l b e) rest g st f = (
      _,
      refl,
      refl,
      refl,
      refl,
      complete_post d (AddressOf s ∷ fs) (suc n) a _ g.1 g.0 g.0 (
        _,
        indexing i r d fs (suc n) s a l g.0,
        refl,
        no_item d a (AddressOf s ∷ fs) (suc n) r,
        refl,
        complete (suc d) (Index s (expression a) d ∷ fs) (suc (after a (suc n))) b _ g.2 tt
            (_, closing_index i r d (suc d) fs (suc (after a (suc n))) s (expression a) b e g.2, refl, no_item (suc d) b (Index s (expression a) d ∷ fs) (suc (after a (suc n))) r, refl, f),
      ),
    )
    complete d fs n (binary op a s b) rest g st f =
        complete d fs n a _ g.2 (stops_above _ _ fs g.0 st)
        (_, operating i r d fs n op s a g.4 g.2 g.0 st, refl, no_item d a fs n r, refl, complete d (Left (piece_of a) op s ∷ fs) (suc (after a n)) b rest g.3 g.1 f)

    complete_post : (d : ℕ) (fs : List Frame) (n : ℕ) (c : Phrase) (rest : List Mark) → Grouped c → 8 ≤ level_of c → Stops (level_of c) fs
        → Follows (having i d c fs n r) rest tree
        → Follows (within i (whole d n fs r) Post) (spelled d 0 n c rest) tree
    complete_post d fs n (number v s) rest g h st f = (_, refl, refl, refl, refl, f)
    complete_post d fs n (null s) rest g h st f = (_, refl, refl, refl, refl, f)
    complete_post d fs n (variable x) rest g h st f = (_, refl, refl, refl, refl, f)
    complete_post d fs n (own s) rest g h st f = (_, refl, refl, refl, refl, f)
    complete_post d fs n (parens o a c) rest g h st f =
        (_, refl, refl, refl, refl, complete (suc d) (Open o d ∷ fs) n a _ g tt (_, closing i r d (suc d) fs n o a c g, refl, no_item (suc d) a (Open o d ∷ fs) n r, refl, f))
    complete_post d fs n (arrow a s x) rest g h st f =
        complete_post d fs n a _ g.1 g.0 (stops_above 8 _ fs g.0 st)
        (_, accessing i r d fs n a s g.0, refl, no_item d a fs n r, refl, (_, refl, refl, refl, refl, f))
    complete_post d fs n (prefix op s a) rest g h st f = absurd (omega arith)
    complete_post d fs n (address s a) rest g h st f = absurd (omega arith)
    complete_post d fs n (element s a l b e) rest g h st f = absurd (omega arith)
    complete_post d fs n (binary op a s b) rest g h st f = let k = level_low op in absurd (omega arith)
