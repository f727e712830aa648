-- The tree of a derivation.
use Rattle.std.specs.Prelude.{ℕ, Some, None, List, [], ◌∷◌}
use Rattle.ceal_base.specs.declared.fault.Span.{Span}
use Rattle.ceal_base.specs.declared.syntax.Entry.{Entry}
use Rattle.ceal_base.specs.declared.syntax.Entry.TheVariants.{Struct, Function}
use Rattle.ceal_base.specs.declared.syntax.Expr.{Expr}
use Rattle.ceal_base.specs.declared.syntax.ExprForm.{Num, Null, Var, Own}
use Rattle.ceal_base.specs.declared.syntax.ExprForm.TheViews.{Unary, Binary, Field, Address, Pick}
use Rattle.ceal_base.specs.declared.syntax.FieldDecl.{FieldDecl}
use Rattle.ceal_base.specs.declared.syntax.FunctionDecl.{FunctionDecl}
use Rattle.ceal_base.specs.declared.syntax.Stmt.{Stmt, Declare, Assign, SetField, Write, Call, Return, Break, Continue}
use Rattle.ceal_base.specs.declared.syntax.Stmt.TheViews.{If, While}
use Rattle.ceal_base.specs.declared.syntax.Tree.{Tree}
use Rattle.ceal_base.specs.declared.syntax.TypeForm.{TypeForm}
use Rattle.ceal_base.specs.declared.syntax.TypeForm.TheVariants.{Int, Ptr, ModInt, ModPtr, CellInt, CellPtr, CellRow}
use Rattle.ceal_base.specs.declared.syntax.TypeForm.TheVariants.{CellPtrRow}
use Rattle.ceal_base.specs.declared.syntax.Value.{Value}
use Rattle.ceal_base.specs.declared.syntax.Value.TheVariants.{Plain, Read, Alloc, ModrefInt, Modref}
use Rattle.ceal_grammar.specs.Grammar.{Phrase, number, null, variable, own, parens, arrow, prefix, address, element}
use Rattle.ceal_grammar.specs.Grammar.{binary, Written, int, pointer, mod_int, mod_pointer, cell_int, cell_pointer}
use Rattle.ceal_grammar.specs.Grammar.{Arguments, no_arguments, arguments, Given, plainly, reading, allocation}
use Rattle.ceal_grammar.specs.Grammar.{modref_int, modref, Statement, declare, assign, set, store, call, branch, loop}
use Rattle.ceal_grammar.specs.Grammar.{exit, break, continue, Branch, when, Otherwise, nothing, otherwise, chained}
use Rattle.ceal_grammar.specs.Grammar.{Block, block, Statements, ended, followed, Parameter, Parameters, no_parameters}
use Rattle.ceal_grammar.specs.Grammar.{parameters, Signature, core, init, Size, single, row, Member, Part, structure}
use Rattle.ceal_grammar.specs.Grammar.{function, Program}

-- The span of the first token.
unfoldable pub first : Phrase → Span
first (number v s) = s
first (null s) = s
first (variable x) = x.span
first (own s) = s
first (parens l a r) = l
first (arrow a s x) = first a
first (prefix op s a) = s
first (address s a) = s
first (element s a l b r) = s
first (binary op a s b) = first a

-- Parentheses leave nothing, and the span is that of the first token within them.
unfoldable pub expression : Phrase → Expr
expression (number v s) = record { span = s; form = Num v }
expression (null s) = record { span = s; form = Null }
expression (variable x) = record { span = x.span; form = Var x }
expression (own s) = record { span = s; form = Own }
expression (parens l a r) = expression a
expression (arrow a s x) = record { span = first a; form = Field (expression a) x }
expression (prefix op s a) = record { span = s; form = Unary op (expression a) }
expression (address s a) = record { span = s; form = Address (expression a) }
expression (element s a l b r) = record { span = s; form = Pick (expression a) (expression b) }
expression (binary op a s b) = record { span = first a; form = Binary op s (expression a) (expression b) }

-- the type that is written so
abbrev pub type_form : Written → TypeForm
type_form (int s) = Int
type_form (pointer s x t) = Ptr x
type_form (mod_int s k t) = ModInt
type_form (mod_pointer s k x t) = ModPtr x
type_form (cell_int s k) = CellInt
type_form (cell_pointer s k x) = CellPtr x

-- the place of the first token of a type
abbrev pub type_first : Written → Span
type_first (int s) = s
type_first (pointer s x t) = s
type_first (mod_int s k t) = s
type_first (mod_pointer s k x t) = s
type_first (cell_int s k) = s
type_first (cell_pointer s k x) = s

-- the trees of arguments after the first
unfoldable pub expressions : List (Span × Phrase) → List Expr
expressions [] = []
expressions (a ∷ more) = expression a.1 ∷ expressions more

-- the trees of arguments
abbrev pub argument_trees : Arguments → List Expr
argument_trees no_arguments = []
argument_trees (arguments e more) = expression e ∷ expressions more

-- the tree of a value
abbrev pub value_tree : Given → Value
value_tree (plainly e) = Plain (expression e)
value_tree (reading s l e r) = Read s (expression e)
value_tree (allocation s y x l args r) = Alloc s y x (argument_trees args)
value_tree (modref_int s k l r) = ModrefInt s
value_tree (modref s y l r) = Modref s y

unfoldable mutual
  -- the tree of a statement
  pub statement_tree : Statement → Stmt
  statement_tree (declare w x q g semi) = Declare (type_first w) (type_form w) x (value_tree g)
  statement_tree (assign x q g semi) = Assign x (value_tree g)
  statement_tree (set p s x q e semi) = SetField (first p) (expression p) x (expression e)
  statement_tree (store s l a c e r semi) = Write s (expression a) (expression e)
  statement_tree (call x l args r semi) = Call x (argument_trees args)
  statement_tree (branch b) = branch_tree b
  statement_tree (loop s l e r b) = While s (expression e) (block_trees b)
  statement_tree (exit s semi) = Return s
  statement_tree (break s semi) = Break s
  statement_tree (continue s semi) = Continue s

  -- the tree of an `if`
  pub branch_tree : Branch → Stmt
  branch_tree (when s l e r b other) = If s (expression e) (block_trees b) (otherwise_trees other)

  -- the trees of what follows the first block of an `if`
  pub otherwise_trees : Otherwise → List Stmt
  otherwise_trees nothing = []
  otherwise_trees (otherwise s b) = block_trees b
  otherwise_trees (chained s b) = branch_tree b ∷ []

  -- the trees of the statements of a block
  pub block_trees : Block → List Stmt
  block_trees (block l ss r) = statement_trees ss

  -- the trees of statements
  pub statement_trees : Statements → List Stmt
  statement_trees ended = []
  statement_trees (followed s ss) = statement_tree s ∷ statement_trees ss

-- the tree of a parameter
abbrev pub parameter_tree : Parameter → FieldDecl
parameter_tree p = record { form = type_form p.type; name = p.x }

-- the trees of parameters after the first
unfoldable pub other_trees : List (Span × Parameter) → List FieldDecl
other_trees [] = []
other_trees (p ∷ more) = parameter_tree p.1 ∷ other_trees more

-- the trees of parameters
abbrev pub parameter_trees : Parameters → List FieldDecl
parameter_trees no_parameters = []
parameter_trees (parameters p more) = parameter_tree p ∷ other_trees more

-- the place of the closing brace
abbrev pub close_of : Block → Span
close_of (block l ss r) = r

-- the tree of a function
abbrev pub function_tree : Signature → Block → FunctionDecl
function_tree (core s x l ps r) b =
    record { initialiser = None; name = x; params = parameter_trees ps; body = block_trees b; close = close_of b }
function_tree (init s x l k y t o more r) b =
    record { initialiser = Some y; name = x; params = other_trees more; body = block_trees b; close = close_of b }

-- a row of n modifiables of this type
abbrev pub row_form : TypeForm → ℕ → TypeForm
row_form CellInt n = CellRow n
row_form (CellPtr y) n = CellPtrRow y n
row_form form n = form

-- the type of a member, with its length where it is a row
abbrev pub sized_form : TypeForm → Size → TypeForm
sized_form form single = form
sized_form form (row l n s r) = row_form form n

-- the trees of members
unfoldable pub member_trees : List Member → List FieldDecl
member_trees [] = []
member_trees (m ∷ ms) = record { form = sized_form (type_form m.type) m.size; name = m.x } ∷ member_trees ms

-- the tree of a struct or a function
abbrev pub part_tree : Part → Entry
part_tree (structure s x l ms r semi) = Struct (record { name = x; fields = member_trees ms })
part_tree (function h b) = Function (function_tree h b)

-- the trees of all parts
unfoldable pub part_trees : List Part → List Entry
part_trees [] = []
part_trees (p ∷ ps) = part_tree p ∷ part_trees ps

-- the tree of a program
abbrev pub program_tree : Program → Tree
program_tree p = record { entries = part_trees p.parts }
