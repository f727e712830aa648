-- The tokens of a derivation, and what is counted at each.
use Rattle.std.specs.Prelude.{ℕ, suc, ◌+◌, pos, List, [], ◌∷◌}
use Rattle.ceal_base.specs.declared.fault.Span.{Span}
use Rattle.ceal_base.specs.declared.operators.Unary.{Unary as UnaryOp}
use Rattle.ceal_base.specs.declared.operators.Unary.TheVariants.{Neg, Not}
use Rattle.ceal_base.specs.declared.operators.Binary.{Binary as BinaryOp}
use Rattle.ceal_base.specs.declared.operators.Binary.TheVariants.{Add, Sub, Mul, Div, Rem, Less, LessEq, More, MoreEq}
use Rattle.ceal_base.specs.declared.operators.Binary.TheVariants.{Same, Differ, And, Or, Pick}
use Rattle.ceal_base.specs.declared.syntax.Ident.{Ident}
use Rattle.ceal_lex.specs.declared.token.Reserved.TheVariants as Words
use Rattle.ceal_lex.specs.declared.token.Sign.{Sign as SignOf}
use Rattle.ceal_lex.specs.declared.token.Sign.TheVariants as Signs
use Rattle.ceal_lex.specs.declared.token.Token.{Token}
use Rattle.ceal_lex.specs.declared.token.TokenKind.{TokenKind}
use Rattle.ceal_lex.specs.declared.token.TokenKind.TheVariants.{Name, Number, Reserved, Sign, End}
use Rattle.ceal_grammar.specs.Grammar.{Phrase, number, null, variable, own, parens, arrow, prefix, address, element}
use Rattle.ceal_grammar.specs.Grammar.{binary, Written, int, pointer, mod_int, mod_pointer, cell_int, cell_pointer}
use Rattle.ceal_grammar.specs.Grammar.{Arguments, no_arguments, arguments, Given, plainly, reading, allocation}
use Rattle.ceal_grammar.specs.Grammar.{modref_int, modref, Statement, declare, assign, set, store, call, branch, loop}
use Rattle.ceal_grammar.specs.Grammar.{exit, break, continue, Branch, when, Otherwise, nothing, otherwise, chained}
use Rattle.ceal_grammar.specs.Grammar.{Block, block, Statements, ended, followed, Parameter, Parameters, no_parameters}
use Rattle.ceal_grammar.specs.Grammar.{parameters, Signature, core, init, Size, single, row, Member, Part, structure}
use Rattle.ceal_grammar.specs.Grammar.{function, Program}

-- A token with the nesting at it, the number of the item of a list that begins with it (0: none), and the
-- number of operators of its whole expression up to it. At a closing `)`, `]` or `}` the nesting is that outside.
-- A row of modifiables is as many items as its length: the item of the length is the last of them.
pub record Mark : Type 0 where
  pub token : Token
  pub nesting : ℕ
  pub item : ℕ
  pub operators : ℕ

-- a token with its nesting, its item and its operators
abbrev pub mark : ℕ → ℕ → ℕ → TokenKind → Span → Mark
mark d i n kind at = record { token = record { kind = kind; span = at }; nesting = d; item = i; operators = n }

-- a token that begins no item and occurs in no expression
abbrev pub plain : ℕ → TokenKind → Span → Mark
plain d kind at = mark d 0 0 kind at

-- a name as a token
abbrev pub name : ℕ → Ident → Mark
name d x = plain d (Name x.text) x.span

-- the sign of an operator between operands
abbrev pub sign_of : BinaryOp → SignOf
sign_of Add = Signs.Plus
sign_of Sub = Signs.Minus
sign_of Mul = Signs.Star
sign_of Div = Signs.Slash
sign_of Rem = Signs.Percent
sign_of Less = Signs.Less
sign_of LessEq = Signs.LessEquals
sign_of More = Signs.Greater
sign_of MoreEq = Signs.GreaterEquals
sign_of Same = Signs.EqualsEquals
sign_of Differ = Signs.BangEquals
sign_of And = Signs.AndAnd
sign_of Or = Signs.BarBar
sign_of (Pick n) = Signs.LeftBracket

-- the sign of an operator before its operand
abbrev pub prefix_sign : UnaryOp → SignOf
prefix_sign Neg = Signs.Minus
prefix_sign Not = Signs.Bang

-- The number of operators after a phrase, where there were n before it. `&`, `->` and the `[` of an index are
-- operators too.
unfoldable pub after : Phrase → ℕ → ℕ
after (number v s) n = n
after (null s) n = n
after (variable x) n = n
after (own s) n = n
after (parens l a r) n = after a n
after (arrow a s x) n = suc (after a n)
after (prefix op s a) n = after a (suc n)
after (address s a) n = after a (suc n)
after (element s a l b r) n = after b (suc (after a (suc n)))
after (binary op a s b) n = after b (suc (after a n))

-- The tokens of a phrase, and then `rest`: the phrase is at nesting d, is the item i of a list, and n
-- operators of its whole expression are before it.
unfoldable pub spelled : ℕ → ℕ → ℕ → Phrase → List Mark → List Mark
spelled d i n (number v s) rest = mark d i n (Number v) s ∷ rest
spelled d i n (null s) rest = mark d i n (Reserved Words.Null) s ∷ rest
spelled d i n (variable x) rest = mark d i n (Name x.text) x.span ∷ rest
spelled d i n (own s) rest = mark d i n (Reserved Words.Own) s ∷ rest
spelled d i n (parens l a r) rest =
    mark (suc d) i n (Sign Signs.LeftParenthesis) l
    ∷ spelled (suc d) 0 n a (mark d 0 (after a n) (Sign Signs.RightParenthesis) r ∷ rest)
spelled d i n (arrow a s x) rest =
    spelled d i n a
    (mark d 0 (suc (after a n)) (Sign Signs.Arrow) s ∷ mark d 0 (suc (after a n)) (Name x.text) x.span ∷ rest)
spelled d i n (prefix op s a) rest = mark d i (suc n) (Sign (prefix_sign op)) s ∷ spelled d 0 (suc n) a rest
spelled d i n (address s a) rest = mark d i (suc n) (Sign Signs.Ampersand) s ∷ spelled d 0 (suc n) a rest
spelled d i n (element s a l b r) rest =
    mark d i (suc n) (Sign Signs.Ampersand) s
    ∷ spelled d 0 (suc n) a (mark (suc d) 0 (suc (after a (suc n))) (Sign Signs.LeftBracket) l
    ∷ spelled (suc d) 0 (suc (after a (suc n))) b
    (mark d 0 (after b (suc (after a (suc n)))) (Sign Signs.RightBracket) r ∷ rest))
spelled d i n (binary op a s b) rest =
    spelled d i n a (mark d 0 (suc (after a n)) (Sign (sign_of op)) s ∷ spelled d 0 (suc (after a n)) b rest)

-- the tokens of a type, and then the rest
abbrev pub spelled_type : ℕ → ℕ → Written → List Mark → List Mark
spelled_type d i (int s) rest = mark d i 0 (Reserved Words.Int) s ∷ rest
spelled_type d i (pointer s x t) rest =
    mark d i 0 (Reserved Words.Struct) s ∷ name d x ∷ plain d (Sign Signs.Star) t ∷ rest
spelled_type d i (mod_int s k t) rest =
    mark d i 0 (Reserved Words.Mod) s ∷ plain d (Reserved Words.Int) k ∷ plain d (Sign Signs.Star) t ∷ rest
spelled_type d i (mod_pointer s k x t) rest =
    mark d i 0 (Reserved Words.Mod) s ∷ plain d (Reserved Words.Struct) k ∷ name d x
    ∷ plain d (Sign Signs.Star) t ∷ rest
spelled_type d i (cell_int s k) rest = mark d i 0 (Reserved Words.Mod) s ∷ plain d (Reserved Words.Int) k ∷ rest
spelled_type d i (cell_pointer s k x) rest =
    mark d i 0 (Reserved Words.Mod) s ∷ plain d (Reserved Words.Struct) k ∷ name d x ∷ rest

-- the tokens of arguments with a comma before each
unfoldable pub spelled_more : ℕ → ℕ → List (Span × Phrase) → List Mark → List Mark
spelled_more d i [] rest = rest
spelled_more d i (a ∷ more) rest = plain d (Sign Signs.Comma) a.0 ∷ spelled d i 0 a.1 (spelled_more d (suc i) more rest)

-- the arguments between `(` and `)`, at the nesting d of what is inside
abbrev pub spelled_arguments : ℕ → Arguments → List Mark → List Mark
spelled_arguments d no_arguments rest = rest
spelled_arguments d (arguments e more) rest = spelled d 1 0 e (spelled_more d 2 more rest)

-- the tokens of a value
abbrev pub spelled_given : ℕ → Given → List Mark → List Mark
spelled_given d (plainly e) rest = spelled d 0 0 e rest
spelled_given d (reading s l e r) rest =
    plain d (Reserved Words.Read) s ∷ plain (suc d) (Sign Signs.LeftParenthesis) l
    ∷ spelled (suc d) 0 0 e (plain d (Sign Signs.RightParenthesis) r ∷ rest)
spelled_given d (allocation s y x l args r) rest =
    plain d (Reserved Words.Alloc) s ∷ name d y ∷ name d x ∷ plain (suc d) (Sign Signs.LeftParenthesis) l
    ∷ spelled_arguments (suc d) args (plain d (Sign Signs.RightParenthesis) r ∷ rest)
spelled_given d (modref_int s k l r) rest =
    plain d (Reserved Words.Modref) s ∷ plain d (Reserved Words.Int) k ∷ plain (suc d) (Sign Signs.LeftParenthesis) l
    ∷ plain d (Sign Signs.RightParenthesis) r ∷ rest
spelled_given d (modref s y l r) rest =
    plain d (Reserved Words.Modref) s ∷ name d y ∷ plain (suc d) (Sign Signs.LeftParenthesis) l
    ∷ plain d (Sign Signs.RightParenthesis) r ∷ rest

-- The `if` directly after `else` counts as nesting until its statement ends.
unfoldable mutual
  pub spelled_statement : ℕ → Statement → List Mark → List Mark
  spelled_statement d (declare w x q g semi) rest =
      spelled_type d 0 w
      (name d x ∷ plain d (Sign Signs.Equals) q ∷ spelled_given d g (plain d (Sign Signs.Semicolon) semi ∷ rest))
  spelled_statement d (assign x q g semi) rest =
      name d x ∷ plain d (Sign Signs.Equals) q ∷ spelled_given d g (plain d (Sign Signs.Semicolon) semi ∷ rest)
  spelled_statement d (set p s x q e semi) rest =
      spelled d 0 0 p (mark d 0 (suc (after p 0)) (Sign Signs.Arrow) s ∷ mark d 0 (suc (after p 0)) (Name x.text) x.span
      ∷ plain d (Sign Signs.Equals) q ∷ spelled d 0 0 e (plain d (Sign Signs.Semicolon) semi ∷ rest))
  spelled_statement d (store s l a c e r semi) rest =
      plain d (Reserved Words.Write) s ∷ plain (suc d) (Sign Signs.LeftParenthesis) l
      ∷ spelled (suc d) 0 0 a (plain (suc d) (Sign Signs.Comma) c
      ∷ spelled (suc d) 0 0 e (plain d (Sign Signs.RightParenthesis) r ∷ plain d (Sign Signs.Semicolon) semi ∷ rest))
  spelled_statement d (call x l args r semi) rest =
      name d x ∷ plain (suc d) (Sign Signs.LeftParenthesis) l
      ∷ spelled_arguments (suc d) args
      (plain d (Sign Signs.RightParenthesis) r ∷ plain d (Sign Signs.Semicolon) semi ∷ rest)
  spelled_statement d (branch b) rest = spelled_branch d b rest
  spelled_statement d (loop s l e r b) rest =
      plain d (Reserved Words.While) s ∷ plain (suc d) (Sign Signs.LeftParenthesis) l
      ∷ spelled (suc d) 0 0 e (plain d (Sign Signs.RightParenthesis) r ∷ spelled_block d b rest)
  spelled_statement d (exit s semi) rest =
      plain d (Reserved Words.Return) s ∷ plain d (Sign Signs.Semicolon) semi ∷ rest
  spelled_statement d (break s semi) rest =
      plain d (Reserved Words.Break) s ∷ plain d (Sign Signs.Semicolon) semi ∷ rest
  spelled_statement d (continue s semi) rest =
      plain d (Reserved Words.Continue) s ∷ plain d (Sign Signs.Semicolon) semi ∷ rest

  -- the tokens of an `if`
  pub spelled_branch : ℕ → Branch → List Mark → List Mark
  spelled_branch d (when s l e r b other) rest =
      plain d (Reserved Words.If) s ∷ plain (suc d) (Sign Signs.LeftParenthesis) l
      ∷ spelled (suc d) 0 0 e
      (plain d (Sign Signs.RightParenthesis) r ∷ spelled_block d b (spelled_otherwise d other rest))

  -- the tokens of what follows the first block of an `if`
  pub spelled_otherwise : ℕ → Otherwise → List Mark → List Mark
  spelled_otherwise d nothing rest = rest
  spelled_otherwise d (otherwise s b) rest = plain d (Reserved Words.Else) s ∷ spelled_block d b rest
  spelled_otherwise d (chained s b) rest = plain d (Reserved Words.Else) s ∷ spelled_branch (suc d) b rest

  -- the tokens of a block
  pub spelled_block : ℕ → Block → List Mark → List Mark
  spelled_block d (block l ss r) rest =
      plain (suc d) (Sign Signs.LeftBrace) l ∷ spelled_statements (suc d) ss (plain d (Sign Signs.RightBrace) r ∷ rest)

  -- the tokens of statements
  pub spelled_statements : ℕ → Statements → List Mark → List Mark
  spelled_statements d ended rest = rest
  spelled_statements d (followed s ss) rest = spelled_statement d s (spelled_statements d ss rest)

-- the parameter number i
abbrev pub spelled_parameter : ℕ → Parameter → List Mark → List Mark
spelled_parameter i p rest = spelled_type 1 i p.type (name 1 p.x ∷ rest)

-- the tokens of parameters with a comma before each
unfoldable pub spelled_others : ℕ → List (Span × Parameter) → List Mark → List Mark
spelled_others i [] rest = rest
spelled_others i (p ∷ more) rest =
    plain 1 (Sign Signs.Comma) p.0 ∷ spelled_parameter i p.1 (spelled_others (suc i) more rest)

-- the tokens of parameters
abbrev pub spelled_parameters : Parameters → List Mark → List Mark
spelled_parameters no_parameters rest = rest
spelled_parameters (parameters p more) rest = spelled_parameter 1 p (spelled_others 2 more rest)

-- `self` is no counted parameter.
abbrev pub spelled_signature : Signature → List Mark → List Mark
spelled_signature (core s x l ps r) rest =
    plain 0 (Reserved Words.Ceal) s ∷ name 0 x ∷ plain 1 (Sign Signs.LeftParenthesis) l
    ∷ spelled_parameters ps (plain 0 (Sign Signs.RightParenthesis) r ∷ rest)
spelled_signature (init s x l k y t o more r) rest =
    plain 0 (Reserved Words.Init) s ∷ name 0 x ∷ plain 1 (Sign Signs.LeftParenthesis) l
    ∷ plain 1 (Reserved Words.Struct) k ∷ name 1 y
    ∷ plain 1 (Sign Signs.Star) t ∷ plain 1 (Reserved Words.Own) o
    ∷ spelled_others 1 more (plain 0 (Sign Signs.RightParenthesis) r ∷ rest)

-- how many fields there are with a member, c of them before it
abbrev pub fields_up_to : ℕ → Size → ℕ
fields_up_to c single = suc c
fields_up_to c (row l n s r) = c + n

-- the tokens of a row's length
abbrev pub spelled_size : ℕ → Size → List Mark → List Mark
spelled_size c single rest = rest
spelled_size c (row l n s r) rest =
    plain 2 (Sign Signs.LeftBracket) l ∷ mark 2 (c + n) 0 (Number (pos n)) s
    ∷ plain 1 (Sign Signs.RightBracket) r ∷ rest

-- the members after c fields
unfoldable pub spelled_members : ℕ → List Member → List Mark → List Mark
spelled_members c [] rest = rest
spelled_members c (m ∷ ms) rest =
    spelled_type 1 (suc c) m.type
    (name 1 m.x
    ∷ spelled_size c m.size (plain 1 (Sign Signs.Semicolon) m.semi ∷ spelled_members (fields_up_to c m.size) ms rest))

-- the tokens of a struct or a function
abbrev pub spelled_part : Part → List Mark → List Mark
spelled_part (structure s x l ms r semi) rest =
    plain 0 (Reserved Words.Struct) s ∷ name 0 x ∷ plain 1 (Sign Signs.LeftBrace) l
    ∷ spelled_members 0 ms (plain 0 (Sign Signs.RightBrace) r ∷ plain 0 (Sign Signs.Semicolon) semi ∷ rest)
spelled_part (function h b) rest = spelled_signature h (spelled_block 0 b rest)

-- the tokens of all parts
unfoldable pub spelled_parts : List Part → List Mark → List Mark
spelled_parts [] rest = rest
spelled_parts (p ∷ ps) rest = spelled_part p (spelled_parts ps rest)

-- the tokens of a program, the end among them
abbrev pub spelled_program : Program → List Mark
spelled_program p = spelled_parts p.parts (plain 0 End p.last ∷ [])

-- only the tokens
unfoldable pub tokens_of : List Mark → List Token
tokens_of [] = []
tokens_of (m ∷ ms) = m.token ∷ tokens_of ms
