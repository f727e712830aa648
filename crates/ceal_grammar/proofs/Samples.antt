-- Samples: the tokens of a small program with their marks, and its tree.
use Rattle.std.proofs.Common.{◌≡◌, List, [], ◌∷◌, refl, pos, arith}
use Rattle.ceal_base.specs.declared.fault.Span.{Span}
use Rattle.ceal_base.specs.declared.operators.Binary.TheVariants.{Sub}
use Rattle.ceal_base.specs.declared.operators.Unary.TheVariants.{Neg}
use Rattle.ceal_base.specs.declared.syntax.Expr.{Expr}
use Rattle.ceal_base.specs.declared.syntax.ExprForm.{Num, Var}
use Rattle.ceal_base.specs.declared.syntax.ExprForm.TheViews.{Unary, Binary, Pick}
use Rattle.ceal_base.specs.declared.syntax.Ident.{Ident}
use Rattle.ceal_base.specs.declared.syntax.TypeForm.TheVariants.{CellInt, CellRow}
use Rattle.ceal_lex.specs.declared.token.Reserved.TheVariants as Words
use Rattle.ceal_lex.specs.declared.token.Sign.TheVariants as Signs
use Rattle.ceal_lex.specs.declared.token.TokenKind.TheVariants.{Name, Number, Reserved, Sign}
use Rattle.ceal_grammar.specs.Grammar.{Phrase, number, variable, parens, prefix, element, binary, Grouped, cell_int, Member, single, row}
use Rattle.ceal_grammar.specs.Spelled.{mark, name, plain, after, spelled, spelled_members}
use Rattle.ceal_grammar.specs.Trees.{expression, first, member_trees}

abbrev s : Span
s = record { from = 0; to = 1 }

abbrev t : Span
t = record { from = 5; to = 6 }

abbrev x : Ident
x = record { text = 120 ∷ []; span = t }

-- (-1) - x, the third argument of a call at nesting 4
abbrev sample : Phrase
sample = binary Sub (parens s (prefix Neg t (number (pos 1) t)) t) t (variable x)

grouped : Grouped sample
unfolding Grouped
grouped = (omega arith, omega arith, (omega arith, tt), tt, tt)

-- the `(` deepens and begins the item; the operators count through the parentheses
marks : spelled 4 3 0 sample [] ≡
    mark 5 3 0 (Sign Signs.LeftParenthesis) s ∷ mark 5 0 1 (Sign Signs.Minus) t ∷ mark 5 0 1 (Number (pos 1)) t
    ∷ mark 4 0 1 (Sign Signs.RightParenthesis) t ∷ mark 4 0 2 (Sign Signs.Minus) t ∷ mark 4 0 2 (Name (120 ∷ [])) t ∷ []
unfolding spelled after
marks = refl

abbrev one : Expr
one = record { span = t; form = Num (pos 1) }

abbrev minus_one : Expr
minus_one = record { span = t; form = Unary Neg one }

abbrev named : Expr
named = record { span = t; form = Var x }

-- the span of the whole is that of the `(`, that of the operand in it that of the `-`
tree : expression sample ≡ record { span = s; form = Binary Sub t minus_one named }
unfolding expression first
tree = refl

-- &x[1] at nesting 4: the `[` deepens, and is an operator
abbrev second : Phrase
second = element s (variable x) t (number (pos 1) t) t

second_grouped : Grouped second
unfolding Grouped
second_grouped = (omega arith, tt, tt)

second_marks : spelled 4 0 0 second [] ≡
    mark 4 0 1 (Sign Signs.Ampersand) s ∷ mark 4 0 1 (Name (120 ∷ [])) t ∷ mark 5 0 2 (Sign Signs.LeftBracket) t
    ∷ mark 5 0 2 (Number (pos 1)) t ∷ mark 4 0 2 (Sign Signs.RightBracket) t ∷ []
unfolding spelled after
second_marks = refl

second_tree : expression second ≡ record { span = s; form = Pick named one }
unfolding expression first
second_tree = refl

-- mod int x[4]; and mod int x; after two fields
abbrev members : List Member
members = record { type = cell_int s t; x = x; size = row s 4 t t; semi = t } ∷ record { type = cell_int s t; x = x; size = single; semi = t } ∷ []

-- the row is the fields 3 to 6, and the other one is the field 7
member_marks : spelled_members 2 members [] ≡
    mark 1 3 0 (Reserved Words.Mod) s ∷ plain 1 (Reserved Words.Int) t ∷ name 1 x ∷ plain 2 (Sign Signs.LeftBracket) s ∷ mark 2 6 0 (Number (pos 4)) t
    ∷ plain 1 (Sign Signs.RightBracket) t ∷ plain 1 (Sign Signs.Semicolon) t
    ∷ mark 1 7 0 (Reserved Words.Mod) s ∷ plain 1 (Reserved Words.Int) t ∷ name 1 x ∷ plain 1 (Sign Signs.Semicolon) t ∷ []
unfolding spelled_members
member_marks = refl

fields : member_trees members ≡ record { form = CellRow 4; name = x } ∷ record { form = CellInt; name = x } ∷ []
unfolding member_trees
fields = refl
