-- Operators may follow a phrase in any order: the phrases are grouped again.
use Rattle.std.proofs.Common.{◌≡◌, ℕ, ◌≤◌, List, ◌∷◌, refl, arith, inl, inr}
use Rattle.std.specs.Prelude.{nat_le, if◌then◌else◌}
use Rattle.std.proofs.lemmas.Bool.Decides.{leb_tells}
use Rattle.ceal_base.specs.declared.fault.Span.{Span}
use Rattle.ceal_base.specs.declared.operators.Unary.{Unary as UnaryOp}
use Rattle.ceal_base.specs.declared.operators.Binary.{Binary as BinaryOp}
use Rattle.ceal_base.specs.declared.syntax.Ident.{Ident}
use Rattle.ceal_lex.specs.declared.token.Sign.TheVariants as Signs
use Rattle.ceal_lex.specs.declared.token.Token.{Token}
use Rattle.ceal_lex.specs.declared.token.TokenKind.TheVariants.{Sign}
use Rattle.ceal_grammar.specs.declared.state.Frame.{Frame}
use Rattle.ceal_grammar.specs.declared.state.Frame.TheVariants.{Address as AddressOf}
use Rattle.ceal_grammar.specs.Grammar.{Phrase, number, null, variable, own, parens, arrow, prefix, address, element, binary, level, IsInfix, level_of, Grouped}
use Rattle.ceal_grammar.specs.Spelled.{sign_of, prefix_sign}
use Rattle.ceal_grammar.proofs.CompletePhrase.{level_low}
use Rattle.ceal_grammar.proofs.Words.{word, named, phrase}

-- a phrase with `-` or `!` before it
unfoldable pub negate : UnaryOp → Span → Phrase → Phrase
negate o s (binary op a t b) = binary op (negate o s a) t b
negate o s (number v t) = prefix o s (number v t)
negate o s (null t) = prefix o s (null t)
negate o s (variable x) = prefix o s (variable x)
negate o s (own t) = prefix o s (own t)
negate o s (parens l a r) = prefix o s (parens l a r)
negate o s (arrow a t x) = prefix o s (arrow a t x)
negate o s (prefix op t a) = prefix o s (prefix op t a)
negate o s (address t a) = prefix o s (address t a)
negate o s (element t a l b r) = prefix o s (element t a l b r)

negate_level : (o : UnaryOp) (s : Span) (c : Phrase) (l : ℕ) → l ≤ 7 → l ≤ level_of c → l ≤ level_of (negate o s c)
unfolding negate
negate_level o s (binary op a t b) l h k = k
negate_level o s (number v t) l h k = h
negate_level o s (null t) l h k = h
negate_level o s (variable x) l h k = h
negate_level o s (own t) l h k = h
negate_level o s (parens p a r) l h k = h
negate_level o s (arrow a t x) l h k = h
negate_level o s (prefix op t a) l h k = h
negate_level o s (address t a) l h k = h
negate_level o s (element t a m b r) l h k = h

pub negate_grouped : (o : UnaryOp) (s : Span) (c : Phrase) → Grouped c → Grouped (negate o s c)
unfolding negate Grouped
negate_grouped o s (binary op a t b) g =
    let k = level_low op in (negate_level o s a (level op) (omega arith) g.0, g.1, negate_grouped o s a g.2, g.3, g.4)
negate_grouped o s (number v t) g = (omega arith, g)
negate_grouped o s (null t) g = (omega arith, g)
negate_grouped o s (variable x) g = (omega arith, g)
negate_grouped o s (own t) g = (omega arith, g)
negate_grouped o s (parens p a r) g = (omega arith, g)
negate_grouped o s (arrow a t x) g = (omega arith, g)
negate_grouped o s (prefix op t a) g = (omega arith, g)
negate_grouped o s (address t a) g = (omega arith, g)
negate_grouped o s (element t a l b r) g = (omega arith, g)

pub negate_words : (o : UnaryOp) (s : Span) (c : Phrase) (u : List Token) → phrase (negate o s c) u ≡ word (Sign (prefix_sign o)) s ∷ phrase c u
unfolding negate phrase
negate_words o s (binary op a t b) u = negate_words o s a _
negate_words o s (number v t) u = refl
negate_words o s (null t) u = refl
negate_words o s (variable x) u = refl
negate_words o s (own t) u = refl
negate_words o s (parens p a r) u = refl
negate_words o s (arrow a t x) u = refl
negate_words o s (prefix op t a) u = refl
negate_words o s (address t a) u = refl
negate_words o s (element t a l b r) u = refl

-- a phrase, an operator, and a phrase
unfoldable pub joined : Phrase → BinaryOp → Span → Phrase → Phrase
joined c op s (binary o a t b) = if nat_le (level o) (level op) then binary o (joined c op s a) t b else binary op c s (binary o a t b)
joined c op s (number v t) = binary op c s (number v t)
joined c op s (null t) = binary op c s (null t)
joined c op s (variable x) = binary op c s (variable x)
joined c op s (own t) = binary op c s (own t)
joined c op s (parens l a r) = binary op c s (parens l a r)
joined c op s (arrow a t x) = binary op c s (arrow a t x)
joined c op s (prefix o t a) = binary op c s (prefix o t a)
joined c op s (address t a) = binary op c s (address t a)
joined c op s (element t a l b r) = binary op c s (element t a l b r)

joined_level : (c : Phrase) (op : BinaryOp) (s : Span) (b : Phrase) (l : ℕ) → l ≤ level op → l ≤ level_of b → l ≤ level_of (joined c op s b)
unfolding joined
joined_level c op s (binary o a t b) l h k = elim (leb_tells (level o) (level op)) [ inl p ↦ rw p.0 k | inr p ↦ rw p.0 h ]
joined_level c op s (number v t) l h k = h
joined_level c op s (null t) l h k = h
joined_level c op s (variable x) l h k = h
joined_level c op s (own t) l h k = h
joined_level c op s (parens o a r) l h k = h
joined_level c op s (arrow a t x) l h k = h
joined_level c op s (prefix o t a) l h k = h
joined_level c op s (address t a) l h k = h
joined_level c op s (element t a m b r) l h k = h

pub joined_grouped : (c : Phrase) (op : BinaryOp) (s : Span) (b : Phrase) → IsInfix op → 7 ≤ level_of c → Grouped c → Grouped b → Grouped (joined c op s b)
unfolding joined Grouped
joined_grouped c op s (binary o a t b) i h g k = elim (leb_tells (level o) (level op)) [
  | inl p ↦ rw p.0 (joined_level c op s a (level o) p.1 k.0, k.1, joined_grouped c op s a i h g k.2, k.3, k.4)
  | inr p ↦ rw p.0 (let low = level_low op in (omega arith, p.1, g, k, i))
]
joined_grouped c op s (number v t) i h g k = let low = level_low op in (omega arith, omega arith, g, k, i)
joined_grouped c op s (null t) i h g k = let low = level_low op in (omega arith, omega arith, g, k, i)
joined_grouped c op s (variable x) i h g k = let low = level_low op in (omega arith, omega arith, g, k, i)
joined_grouped c op s (own t) i h g k = let low = level_low op in (omega arith, omega arith, g, k, i)
joined_grouped c op s (parens o a r) i h g k = let low = level_low op in (omega arith, omega arith, g, k, i)
joined_grouped c op s (arrow a t x) i h g k = let low = level_low op in (omega arith, omega arith, g, k, i)
joined_grouped c op s (prefix o t a) i h g k = let low = level_low op in (omega arith, omega arith, g, k, i)
joined_grouped c op s (address t a) i h g k = let low = level_low op in (omega arith, omega arith, g, k, i)
joined_grouped c op s (element t a l b r) i h g k = let low = level_low op in (omega arith, omega arith, g, k, i)

pub joined_words : (c : Phrase) (op : BinaryOp) (s : Span) (b : Phrase) (u : List Token)
    → phrase (joined c op s b) u ≡ phrase c (word (Sign (sign_of op)) s ∷ phrase b u)
unfolding joined phrase
joined_words c op s (binary o a t b) u = elim (leb_tells (level o) (level op))
    [ inl p ↦ rw p.0 (joined_words c op s a _) | inr p ↦ rw p.0 refl ]
joined_words c op s (number v t) u = refl
joined_words c op s (null t) u = refl
joined_words c op s (variable x) u = refl
joined_words c op s (own t) u = refl
joined_words c op s (parens o a r) u = refl
joined_words c op s (arrow a t x) u = refl
joined_words c op s (prefix o t a) u = refl
joined_words c op s (address t a) u = refl
joined_words c op s (element t a l b r) u = refl

-- What may follow an operand with its arrows and its index: nothing, or an operator and a phrase.
pub data Behind : Type 0 where
  stop : Behind
  more : (op : BinaryOp) (at : Span) (c : Phrase) → Behind

unfoldable pub behind_words : Behind → List Token → List Token
behind_words stop u = u
behind_words (more op s c) u = word (Sign (sign_of op)) s ∷ phrase c u

unfoldable pub BehindGrouped : Behind → Type 0
BehindGrouped stop = Unit {0}
BehindGrouped (more op s c) = IsInfix op × Grouped c

unfoldable pub beside : Phrase → Behind → Phrase
beside c stop = c
beside c (more op s b) = joined c op s b

pub beside_grouped : (b : Behind) (c : Phrase) → 7 ≤ level_of c → Grouped c → BehindGrouped b → Grouped (beside c b)
unfolding beside BehindGrouped
beside_grouped stop c h g k = g
beside_grouped (more op s b) c h g k = joined_grouped c op s b k.0 h g k.1

pub beside_words : (b : Behind) (c : Phrase) (u : List Token) → phrase (beside c b) u ≡ phrase c (behind_words b u)
unfolding beside behind_words
beside_words stop c u = refl
beside_words (more op s b) c u = joined_words c op s b u

-- What may follow an operand within its expression.
pub data Tail : Type 0 where
  ending : (b : Behind) → Tail
  field : (at : Span) (x : Ident) (t : Tail) → Tail
  index : (left : Span) (c : Phrase) (right : Span) (b : Behind) → Tail

unfoldable pub tail_words : Tail → List Token → List Token
tail_words (ending b) u = behind_words b u
tail_words (field s x t) u = word (Sign Signs.Arrow) s ∷ named x ∷ tail_words t u
tail_words (index l c r b) u = word (Sign Signs.LeftBracket) l ∷ phrase c (word (Sign Signs.RightBracket) r ∷ behind_words b u)

-- An index may follow the operand of an `&` only.
abbrev pub IsPointed : List Frame → Type 0
IsPointed (AddressOf s ∷ fs) = Unit {0}
IsPointed _ = ⊥

unfoldable pub TailGrouped : List Frame → Tail → Type 0
TailGrouped fs (ending b) = BehindGrouped b
TailGrouped fs (field s x t) = TailGrouped fs t
TailGrouped fs (index l c r b) = IsPointed fs × Grouped c × BehindGrouped b

-- `&`, an operand, and what follows it
unfoldable pub pointed : Span → Phrase → Tail → Phrase
pointed o c (ending b) = beside (address o c) b
pointed o c (field s x t) = pointed o (arrow c s x) t
pointed o c (index l d r b) = beside (element o c l d r) b

pub pointed_grouped : (o : Span) (fs : List Frame) (t : Tail) (c : Phrase) → 8 ≤ level_of c → Grouped c → TailGrouped fs t → Grouped (pointed o c t)
unfolding pointed TailGrouped Grouped
pointed_grouped o fs (ending b) c h g k = beside_grouped b (address o c) (omega arith) (h, g) k
pointed_grouped o fs (field s x t) c h g k = pointed_grouped o fs t (arrow c s x) (omega arith) (h, g) k
pointed_grouped o fs (index l d r b) c h g k = beside_grouped b (element o c l d r) (omega arith) (h, g, k.1) k.2

pub pointed_words : (o : Span) (t : Tail) (c : Phrase) (u : List Token) → phrase (pointed o c t) u ≡ word (Sign Signs.Ampersand) o ∷ phrase c (tail_words t u)
unfolding pointed phrase tail_words
pointed_words o (ending b) c u = beside_words b (address o c) u
pointed_words o (field s x t) c u = pointed_words o t (arrow c s x) u
pointed_words o (index l d r b) c u = beside_words b (element o c l d r) u
