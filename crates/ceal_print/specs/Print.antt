-- What a printed text is: that it reads back as the tree, apart from spans (so Danielsson, *Correct-by-construction
-- pretty-printing*, DTP 2013).
use Rattle.std.specs.Prelude.{ℕ, ◌≤◌, ◌≡◌, Bool, Option, Some, None, List, [], ◌∷◌, ◌++◌, length, codes}
use Rattle.ceal_base.specs.declared.fault.Span.{Span}
use Rattle.ceal_base.specs.declared.syntax.Entry.{Entry}
use Rattle.ceal_base.specs.declared.syntax.Entry.TheVariants.{Struct, Function}
use Rattle.ceal_base.specs.declared.syntax.Expr.{Expr}
use Rattle.ceal_base.specs.declared.syntax.ExprForm.{ExprForm, Num, Null, Var, Own, Unary', Binary', Field', Address'}
use Rattle.ceal_base.specs.declared.syntax.ExprForm.{Pick'}
use Rattle.ceal_base.specs.declared.syntax.ExprForm.TheBlock.{Row_of-Expr, end_of-Expr, more_of-Expr}
use Rattle.ceal_base.specs.declared.syntax.ExprForm.TheViews.{Unary, Binary, Field, Address, Pick}
use Rattle.ceal_base.specs.declared.syntax.FieldDecl.{FieldDecl}
use Rattle.ceal_base.specs.declared.syntax.FunctionDecl.{FunctionDecl}
use Rattle.ceal_base.specs.declared.syntax.Ident.{Ident}
use Rattle.ceal_base.specs.declared.syntax.Stmt.{Stmt, Declare, Assign, SetField, Write, Call, If', While', Return}
use Rattle.ceal_base.specs.declared.syntax.Stmt.{Break, Continue, Row_of-Stmt, end_of-Stmt, more_of-Stmt}
use Rattle.ceal_base.specs.declared.syntax.Stmt.TheViews.{If, While}
use Rattle.ceal_base.specs.declared.syntax.Tree.{Tree}
use Rattle.ceal_base.specs.declared.syntax.TypeForm.{TypeForm}
use Rattle.ceal_base.specs.declared.syntax.TypeForm.TheVariants.{Int, Ptr, ModInt, ModPtr, CellInt, CellPtr, CellRow}
use Rattle.ceal_base.specs.declared.syntax.TypeForm.TheVariants.{CellPtrRow}
use Rattle.ceal_base.specs.declared.syntax.Value.{Value}
use Rattle.ceal_base.specs.declared.syntax.Value.TheVariants.{Plain, Read, Alloc, ModrefInt, Modref}
use Rattle.ceal_lex.specs.declared.parts.Split.{Split}
use Rattle.ceal_lex.specs.declared.token.Token.{Token}
use Rattle.ceal_lex.specs.Parts.{IsSplit, source_of}
use Rattle.ceal_lex.specs.Tokens.{AreTokens}
use Rattle.ceal_grammar.specs.Faults.{Accepts}

-- A tree without its spans: each of them is `nowhere`.
abbrev pub nowhere : Span
nowhere = record { from = 0; to = 0 }

-- a name without its place in the text
abbrev pub bare_name : Ident → Ident
bare_name x = record { text = x.text; span = nowhere }

unfoldable mutual
  -- a form of expression without places in the text
  pub bare_form : ExprForm → ExprForm
  bare_form (Num v) = Num v
  bare_form Null = Null
  bare_form (Var x) = Var (bare_name x)
  bare_form Own = Own
  bare_form (Unary' op _ a) = Unary op (bare_row a)
  bare_form (Binary' op s _ a _ b) = Binary op nowhere (bare_row a) (bare_row b)
  bare_form (Field' _ a x) = Field (bare_row a) (bare_name x)
  bare_form (Address' _ a) = Address (bare_row a)
  bare_form (Pick' _ a _ b) = Pick (bare_row a) (bare_row b)

  -- the same of an operand
  pub bare_row : {n : _} → Row_of-Expr n → Expr
  bare_row end_of-Expr = record { span = nowhere; form = Null }
  bare_row (more_of-Expr span form rest) = record { span = nowhere; form = bare_form form }

-- an expression without places in the text
abbrev pub bare_expr : Expr → Expr
bare_expr e = record { span = nowhere; form = bare_form e.form }

-- the same of each of a list
unfoldable pub bare_exprs : List Expr → List Expr
bare_exprs [] = []
bare_exprs (e ∷ es) = bare_expr e ∷ bare_exprs es

-- a type without places in the text
abbrev pub bare_type : TypeForm → TypeForm
bare_type Int = Int
bare_type (Ptr x) = Ptr (bare_name x)
bare_type ModInt = ModInt
bare_type (ModPtr x) = ModPtr (bare_name x)
bare_type CellInt = CellInt
bare_type (CellPtr x) = CellPtr (bare_name x)
bare_type (CellRow n) = CellRow n
bare_type (CellPtrRow x n) = CellPtrRow (bare_name x) n

-- a value without places in the text
abbrev pub bare_value : Value → Value
bare_value (Plain e) = Plain (bare_expr e)
bare_value (Read s e) = Read nowhere (bare_expr e)
bare_value (Alloc s y x args) = Alloc nowhere (bare_name y) (bare_name x) (bare_exprs args)
bare_value (ModrefInt s) = ModrefInt nowhere
bare_value (Modref s y) = Modref nowhere (bare_name y)

unfoldable mutual
  -- a statement without places in the text
  pub bare_stmt : Stmt → Stmt
  bare_stmt (Declare s form x v) = Declare nowhere (bare_type form) (bare_name x) (bare_value v)
  bare_stmt (Assign x v) = Assign (bare_name x) (bare_value v)
  bare_stmt (SetField s p x e) = SetField nowhere (bare_expr p) (bare_name x) (bare_expr e)
  bare_stmt (Write s a e) = Write nowhere (bare_expr a) (bare_expr e)
  bare_stmt (Call x args) = Call (bare_name x) (bare_exprs args)
  bare_stmt (If' s e _ first _ second) = If nowhere (bare_expr e) (bare_stmt_row first) (bare_stmt_row second)
  bare_stmt (While' s e _ body) = While nowhere (bare_expr e) (bare_stmt_row body)
  bare_stmt (Return s) = Return nowhere
  bare_stmt (Break s) = Break nowhere
  bare_stmt (Continue s) = Continue nowhere

  -- the same of each of a row
  pub bare_stmt_row : {n : _} → Row_of-Stmt n → List Stmt
  bare_stmt_row end_of-Stmt = []
  bare_stmt_row (more_of-Stmt s rest) = bare_stmt s ∷ bare_stmt_row rest

-- the same of each of a list
unfoldable pub bare_stmts : List Stmt → List Stmt
bare_stmts [] = []
bare_stmts (s ∷ ss) = bare_stmt s ∷ bare_stmts ss

-- a field or parameter without places in the text
abbrev pub bare_field : FieldDecl → FieldDecl
bare_field f = record { form = bare_type f.form; name = bare_name f.name }

-- the same of each of a list
unfoldable pub bare_fields : List FieldDecl → List FieldDecl
bare_fields [] = []
bare_fields (f ∷ fs) = bare_field f ∷ bare_fields fs

-- the struct of an initialiser, if there is one, without its place in the text
abbrev pub bare_owner : Option Ident → Option Ident
bare_owner None = None
bare_owner (Some y) = Some (bare_name y)

-- a function without places in the text
abbrev pub bare_function : FunctionDecl → FunctionDecl
bare_function f = record {
  initialiser = bare_owner f.initialiser;
  name = bare_name f.name;
  params = bare_fields f.params;
  body = bare_stmts f.body;
  close = nowhere;
}

-- an entry without places in the text
abbrev pub bare_entry : Entry → Entry
bare_entry (Struct s) = Struct (record { name = bare_name s.name; fields = bare_fields s.fields })
bare_entry (Function f) = Function (bare_function f)

-- the same of each of a list
unfoldable pub bare_entries : List Entry → List Entry
bare_entries [] = []
bare_entries (e ∷ es) = bare_entry e ∷ bare_entries es

-- a tree without places in the text
abbrev pub bare_tree : Tree → Tree
bare_tree tree = record { entries = bare_entries tree.entries }

-- the line `%%`
abbrev pub mark_line : List ℕ
mark_line = codes "%%\n"

-- the largest input
abbrev pub INPUT_LIMIT : ℕ
INPUT_LIMIT = 4194304

-- The tree is that of a source no larger than an input may be.
pub record IsParsed (tree : Tree) : Type 0 where
  pub source : List ℕ
  pub marked : Bool
  pub tokens : List Token
  pub small : length source ≤ INPUT_LIMIT
  pub lexed : AreTokens source marked tokens
  pub accepted : Accepts tokens tree

-- The text and a line `%%` after it are an input whose tokens are those of a program with the same tree, apart from
-- spans.
pub record ReadsBack (text : List ℕ) (tree : Tree) : Type 0 where
  pub part : Split
  pub tokens : List Token
  pub again : Tree
  pub split : IsSplit (text ++ mark_line) part
  pub lexed : AreTokens (source_of (text ++ mark_line) part) part.marked tokens
  pub accepted : Accepts tokens again
  pub same : bare_tree again ≡ bare_tree tree
