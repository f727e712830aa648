-- The tokens that a tree is printed as, and their text.
use Rattle.std.specs.Prelude.{ℕ, ◌+◌, pos, Bool, true, false, nat_le, if◌then◌else◌, Option, Some, None, List, [], ◌∷◌}
use Rattle.std.specs.Prelude.{◌++◌}
use Rattle.std.specs.Fmt.{signed_decimal}
use Rattle.ceal_base.specs.declared.syntax.Entry.{Entry}
use Rattle.ceal_base.specs.declared.syntax.Entry.TheVariants.{Struct, Function}
use Rattle.ceal_base.specs.declared.syntax.Expr.{Expr}
use Rattle.ceal_base.specs.declared.syntax.ExprForm.{ExprForm, Num, Null, Var, Own, Unary', Binary', Field', Address'}
use Rattle.ceal_base.specs.declared.syntax.ExprForm.{Pick'}
use Rattle.ceal_base.specs.declared.syntax.ExprForm.TheBlock.{Row_of-Expr, end_of-Expr, more_of-Expr}
use Rattle.ceal_base.specs.declared.syntax.FieldDecl.{FieldDecl}
use Rattle.ceal_base.specs.declared.syntax.Ident.{Ident}
use Rattle.ceal_base.specs.declared.syntax.Stmt.{Stmt, Declare, Assign, SetField, Write, Call, If', While', Return}
use Rattle.ceal_base.specs.declared.syntax.Stmt.{Break, Continue, Row_of-Stmt, end_of-Stmt, more_of-Stmt}
use Rattle.ceal_base.specs.declared.syntax.Tree.{Tree}
use Rattle.ceal_base.specs.declared.syntax.TypeForm.{TypeForm}
use Rattle.ceal_base.specs.declared.syntax.TypeForm.TheVariants.{Int, Ptr, ModInt, ModPtr, CellInt, CellPtr, CellRow}
use Rattle.ceal_base.specs.declared.syntax.TypeForm.TheVariants.{CellPtrRow}
use Rattle.ceal_base.specs.declared.syntax.Value.{Value}
use Rattle.ceal_base.specs.declared.syntax.Value.TheVariants.{Plain, Read, Alloc, ModrefInt, Modref}
use Rattle.ceal_lex.specs.Characters.{LINE_FEED}
use Rattle.ceal_lex.specs.Spelling.{reserved_text, sign_text}
use Rattle.ceal_lex.specs.declared.token.Reserved.TheVariants as Words
use Rattle.ceal_lex.specs.declared.token.Sign.{Sign as SignOf}
use Rattle.ceal_lex.specs.declared.token.Sign.TheVariants as Signs
use Rattle.ceal_lex.specs.declared.token.TokenKind.{TokenKind}
use Rattle.ceal_lex.specs.declared.token.TokenKind.TheVariants.{Name, Number, Reserved, Sign, End, Cut}
use Rattle.ceal_grammar.specs.Grammar.{level}
use Rattle.ceal_grammar.specs.Spelled.{sign_of, prefix_sign}

-- the byte of a space
abbrev pub SPACE : ℕ
SPACE = 32

-- the text of a token
abbrev pub kind_text : TokenKind → List ℕ
kind_text (Name text) = text
kind_text (Number n) = signed_decimal n
kind_text (Reserved w) = reserved_text w
kind_text (Sign s) = sign_text s
kind_text End = []
kind_text Cut = []

-- A line ends after `;`, `{` and `}`.
abbrev pub sign_gap : SignOf → ℕ
sign_gap Signs.Semicolon = LINE_FEED
sign_gap Signs.LeftBrace = LINE_FEED
sign_gap Signs.RightBrace = LINE_FEED
sign_gap _ = SPACE

-- what follows a token
abbrev pub gap : TokenKind → List ℕ
gap (Name text) = SPACE ∷ []
gap (Number n) = SPACE ∷ []
gap (Reserved w) = SPACE ∷ []
gap (Sign s) = sign_gap s ∷ []
gap End = []
gap Cut = []

-- the text of tokens, each with its gap
unfoldable pub texts : List TokenKind → List ℕ
texts [] = []
texts (k ∷ ks) = kind_text k ++ (gap k ++ texts ks)

-- The level of an expression, parentheses left out.
abbrev pub form_level : ExprForm → ℕ
form_level (Num v) = 9
form_level Null = 9
form_level (Var x) = 9
form_level Own = 9
form_level (Unary' op _ a) = 7
form_level (Binary' op s _ a _ b) = level op
form_level (Field' _ a x) = 8
form_level (Address' _ a) = 7
form_level (Pick' _ a _ b) = 7

-- An operand of level m is in parentheses where at least level l is asked.
abbrev pub raised : ℕ → ℕ → List TokenKind → List TokenKind
raised l m ks = if nat_le l m then ks else Sign Signs.LeftParenthesis ∷ ks ++ Sign Signs.RightParenthesis ∷ []

unfoldable mutual
  -- the tokens of a form of expression
  pub form_kinds : ExprForm → List TokenKind
  form_kinds (Num v) = Number v ∷ []
  form_kinds Null = Reserved Words.Null ∷ []
  form_kinds (Var x) = Name x.text ∷ []
  form_kinds Own = Reserved Words.Own ∷ []
  form_kinds (Unary' op _ a) = Sign (prefix_sign op) ∷ operand_kinds 7 a
  form_kinds (Binary' op s _ a _ b) = operand_kinds (level op) a ++ Sign (sign_of op) ∷ operand_kinds (level op + 1) b
  form_kinds (Field' _ a x) = operand_kinds 8 a ++ Sign Signs.Arrow ∷ Name x.text ∷ []
  form_kinds (Address' _ a) = Sign Signs.Ampersand ∷ operand_kinds 8 a
  form_kinds (Pick' _ a _ b) =
      Sign Signs.Ampersand ∷ operand_kinds 8 a ++ Sign Signs.LeftBracket ∷ index_kinds b ++ Sign Signs.RightBracket ∷ []

  -- the tokens of an operand, in parentheses where its level is below l
  pub operand_kinds : ℕ → {n : _} → Row_of-Expr n → List TokenKind
  operand_kinds l end_of-Expr = []
  operand_kinds l (more_of-Expr span form rest) = raised l (form_level form) (form_kinds form)

  -- the tokens of an index
  pub index_kinds : {n : _} → Row_of-Expr n → List TokenKind
  index_kinds end_of-Expr = []
  index_kinds (more_of-Expr span form rest) = form_kinds form

-- the tokens of an expression
abbrev pub expr_kinds : Expr → List TokenKind
expr_kinds e = form_kinds e.form

-- the tokens of expressions with a comma before each
unfoldable pub more_kinds : List Expr → List TokenKind
more_kinds [] = []
more_kinds (e ∷ es) = Sign Signs.Comma ∷ expr_kinds e ++ more_kinds es

-- the tokens of arguments with commas between
unfoldable pub argument_kinds : List Expr → List TokenKind
argument_kinds [] = []
argument_kinds (e ∷ es) = expr_kinds e ++ more_kinds es

-- the tokens of a type
abbrev pub type_kinds : TypeForm → List TokenKind
type_kinds Int = Reserved Words.Int ∷ []
type_kinds (Ptr x) = Reserved Words.Struct ∷ Name x.text ∷ Sign Signs.Star ∷ []
type_kinds ModInt = Reserved Words.Mod ∷ Reserved Words.Int ∷ Sign Signs.Star ∷ []
type_kinds (ModPtr x) = Reserved Words.Mod ∷ Reserved Words.Struct ∷ Name x.text ∷ Sign Signs.Star ∷ []
type_kinds CellInt = Reserved Words.Mod ∷ Reserved Words.Int ∷ []
type_kinds (CellPtr x) = Reserved Words.Mod ∷ Reserved Words.Struct ∷ Name x.text ∷ []
type_kinds (CellRow n) = Reserved Words.Mod ∷ Reserved Words.Int ∷ []
type_kinds (CellPtrRow x n) = Reserved Words.Mod ∷ Reserved Words.Struct ∷ Name x.text ∷ []

-- what follows the name of a row
abbrev pub row_length_kinds : ℕ → List TokenKind
row_length_kinds n = Sign Signs.LeftBracket ∷ Number (pos n) ∷ Sign Signs.RightBracket ∷ []

-- the tokens of a row's length, where the type is a row
abbrev pub size_kinds : TypeForm → List TokenKind
size_kinds (CellRow n) = row_length_kinds n
size_kinds (CellPtrRow x n) = row_length_kinds n
size_kinds form = []

-- the tokens of a value
abbrev pub value_kinds : Value → List TokenKind
value_kinds (Plain e) = expr_kinds e
value_kinds (Read s e) =
    Reserved Words.Read ∷ Sign Signs.LeftParenthesis ∷ expr_kinds e ++ Sign Signs.RightParenthesis ∷ []
value_kinds (Alloc s y x args) =
    Reserved Words.Alloc ∷ Name y.text ∷ Name x.text ∷ Sign Signs.LeftParenthesis ∷ argument_kinds args
    ++ Sign Signs.RightParenthesis ∷ []
value_kinds (ModrefInt s) =
    Reserved Words.Modref ∷ Reserved Words.Int ∷ Sign Signs.LeftParenthesis ∷ Sign Signs.RightParenthesis ∷ []
value_kinds (Modref s y) =
    Reserved Words.Modref ∷ Name y.text ∷ Sign Signs.LeftParenthesis ∷ Sign Signs.RightParenthesis ∷ []

-- whether the statement is an `if`
abbrev pub is_branch : Stmt → Bool
is_branch (Declare s form x v) = false
is_branch (Assign x v) = false
is_branch (SetField s p x e) = false
is_branch (Write s a e) = false
is_branch (Call x args) = false
is_branch (If' s e _ first _ second) = true
is_branch (While' s e _ body) = false
is_branch (Return s) = false
is_branch (Break s) = false
is_branch (Continue s) = false

-- whether an `else` part, as a row, is a single `if`
abbrev pub is_alone : {n : _} → Stmt → Row_of-Stmt n → Bool
is_alone s end_of-Stmt = is_branch s
is_alone s (more_of-Stmt t rest) = false

-- tokens in braces
abbrev pub braced : List TokenKind → List TokenKind
braced ks = Sign Signs.LeftBrace ∷ ks ++ Sign Signs.RightBrace ∷ []

-- An else part of a single `if` has no braces.
abbrev pub after_else : Bool → List TokenKind → List TokenKind
after_else alone ks = Reserved Words.Else ∷ (if alone then ks else braced ks)

unfoldable mutual
  -- the tokens of a statement
  pub stmt_kinds : Stmt → List TokenKind
  stmt_kinds (Declare s form x v) =
      type_kinds form ++ Name x.text ∷ Sign Signs.Equals ∷ value_kinds v ++ Sign Signs.Semicolon ∷ []
  stmt_kinds (Assign x v) = Name x.text ∷ Sign Signs.Equals ∷ value_kinds v ++ Sign Signs.Semicolon ∷ []
  stmt_kinds (SetField s p x e) =
      expr_kinds p ++ Sign Signs.Arrow ∷ Name x.text ∷ Sign Signs.Equals ∷ expr_kinds e ++ Sign Signs.Semicolon ∷ []
  stmt_kinds (Write s a e) =
      Reserved Words.Write ∷ Sign Signs.LeftParenthesis ∷ expr_kinds a ++ Sign Signs.Comma ∷ expr_kinds e
      ++ Sign Signs.RightParenthesis ∷ Sign Signs.Semicolon ∷ []
  stmt_kinds (Call x args) =
      Name x.text ∷ Sign Signs.LeftParenthesis ∷ argument_kinds args ++ Sign Signs.RightParenthesis
      ∷ Sign Signs.Semicolon ∷ []
  stmt_kinds (If' s e _ first _ second) =
      Reserved Words.If ∷ Sign Signs.LeftParenthesis ∷ expr_kinds e ++ Sign Signs.RightParenthesis
      ∷ braced (row_kinds first) ++ else_kinds second
  stmt_kinds (While' s e _ body) =
      Reserved Words.While ∷ Sign Signs.LeftParenthesis ∷ expr_kinds e ++ Sign Signs.RightParenthesis
      ∷ braced (row_kinds body)
  stmt_kinds (Return s) = Reserved Words.Return ∷ Sign Signs.Semicolon ∷ []
  stmt_kinds (Break s) = Reserved Words.Break ∷ Sign Signs.Semicolon ∷ []
  stmt_kinds (Continue s) = Reserved Words.Continue ∷ Sign Signs.Semicolon ∷ []

  -- the tokens of the statements of a row
  pub row_kinds : {n : _} → Row_of-Stmt n → List TokenKind
  row_kinds end_of-Stmt = []
  row_kinds (more_of-Stmt s rest) = stmt_kinds s ++ row_kinds rest

  -- the tokens of an `else` part, as a row
  pub else_kinds : {n : _} → Row_of-Stmt n → List TokenKind
  else_kinds end_of-Stmt = []
  else_kinds (more_of-Stmt s rest) = after_else (is_alone s rest) (stmt_kinds s ++ row_kinds rest)

-- the tokens of the statements of a list
unfoldable pub stmts_kinds : List Stmt → List TokenKind
stmts_kinds [] = []
stmts_kinds (s ∷ ss) = stmt_kinds s ++ stmts_kinds ss

-- whether an `else` part is a single `if`
abbrev pub is_chain : List Stmt → Bool
is_chain [] = false
is_chain (s ∷ []) = is_branch s
is_chain (s ∷ t ∷ ss) = false

-- the tokens of an `else` part; none where it is empty
abbrev pub second_kinds : List Stmt → List TokenKind
second_kinds [] = []
second_kinds (s ∷ ss) = after_else (is_chain (s ∷ ss)) (stmts_kinds (s ∷ ss))

-- the tokens of a parameter, or of a member without its end
unfoldable pub field_kinds : FieldDecl → List TokenKind
field_kinds f = type_kinds f.form ++ Name f.name.text ∷ []

-- the tokens of parameters with a comma before each
unfoldable pub other_kinds : List FieldDecl → List TokenKind
other_kinds [] = []
other_kinds (f ∷ fs) = Sign Signs.Comma ∷ field_kinds f ++ other_kinds fs

-- the tokens of parameters with commas between
unfoldable pub parameter_kinds : List FieldDecl → List TokenKind
parameter_kinds [] = []
parameter_kinds (f ∷ fs) = field_kinds f ++ other_kinds fs

-- the tokens of the members of a struct
unfoldable pub member_kinds : List FieldDecl → List TokenKind
member_kinds [] = []
member_kinds (f ∷ fs) = field_kinds f ++ size_kinds f.form ++ Sign Signs.Semicolon ∷ member_kinds fs

-- the word before the name of a function, and what is between its parentheses
abbrev pub head_kinds : Option Ident → Ident → List FieldDecl → List TokenKind
head_kinds None x fs = Reserved Words.Ceal ∷ Name x.text ∷ Sign Signs.LeftParenthesis ∷ parameter_kinds fs
head_kinds (Some y) x fs =
    Reserved Words.Init ∷ Name x.text ∷ Sign Signs.LeftParenthesis ∷ Reserved Words.Struct ∷ Name y.text
    ∷ Sign Signs.Star ∷ Reserved Words.Own
    ∷ other_kinds fs

-- the tokens of an entry
abbrev pub entry_kinds : Entry → List TokenKind
entry_kinds (Struct s) =
    Reserved Words.Struct ∷ Name s.name.text ∷ braced (member_kinds s.fields) ++ Sign Signs.Semicolon ∷ []
entry_kinds (Function f) =
    head_kinds f.initialiser f.name f.params ++ Sign Signs.RightParenthesis ∷ braced (stmts_kinds f.body)

-- the tokens of entries
unfoldable pub entries_kinds : List Entry → List TokenKind
entries_kinds [] = []
entries_kinds (e ∷ es) = entry_kinds e ++ entries_kinds es

-- the tokens of a tree
abbrev pub tree_kinds : Tree → List TokenKind
tree_kinds tree = entries_kinds tree.entries
