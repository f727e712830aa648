-- The type of each form of statement.
use Rattle.std.proofs.Common.{◌≡◌, ℕ, Option, Ok, List, [], ◌∷◌, refl}
use Rattle.ceal_base.specs.declared.fault.Span.{Span}
use Rattle.ceal_base.specs.declared.syntax.Expr.{Expr}
use Rattle.ceal_base.specs.declared.syntax.Ident.{Ident}
use Rattle.ceal_base.specs.declared.syntax.Stmt.{Stmt}
use Rattle.ceal_base.specs.declared.syntax.Stmt.TheBlock.{hidden-the_row-Stmt-0, shape-the_row-Stmt-0}
use Rattle.ceal_base.specs.declared.syntax.Stmt.TheVariants.{Declare, Assign, SetField, Write, Call, Return, Break, Continue}
use Rattle.ceal_base.specs.declared.syntax.Stmt.TheViews.{If, While}
use Rattle.ceal_base.specs.declared.syntax.TypeForm.{TypeForm}
use Rattle.ceal_base.specs.declared.syntax.Value.{Value}
use Rattle.ceal_base.specs.declared.typed.TypedStmt.{Return as ReturnTyped, Break as BreakTyped, Continue as ContinueTyped}
use Rattle.ceal_types.specs.Expressions.{condition}
use Rattle.ceal_types.specs.Heads.{kind_of}
use Rattle.ceal_types.specs.Statements.{Block, step, still, inner_block, declare, assign, set_field, write, call, branch, loop, typed_stmt, typed_row, typed_stmts, with_step}
use Rattle.ceal_types.specs.Walk.{after, result_map, in_turn}
use Rattle.ceal_types.specs.declared.program.Program.{Program}
use Rattle.ceal_types.specs.declared.program.Variables.{Variables}

module _ (p : Program) (own : Option ℕ) where
  -- a row has the types of its list
  pub row-list : (xs : List Stmt) (b : Block) → typed_row p own (hidden-the_row-Stmt-0 xs) b ≡ typed_stmts p own xs b
  unfolding typed_stmt in_turn hidden-the_row-Stmt-0 shape-the_row-Stmt-0 denote.Hole.Carrier.hidden
  row-list [] b = refl
  row-list (s ∷ xs) b = λ i. after (λ rest. row-list xs rest i) (result_map (with_step b) (typed_stmt p own s b.variables))

module _ (p : Program) (own : Option ℕ) (v : Variables) where
  pub stmt-declare : (at : Span) (form : TypeForm) (name : Ident) (value : Value)
      → typed_stmt p own (Declare at form name value) v ≡ after (declare p own at name value v) (kind_of p.names form)
  unfolding typed_stmt
  stmt-declare at form name value = refl

  pub stmt-assign : (name : Ident) (value : Value) → typed_stmt p own (Assign name value) v ≡ result_map (still v) (assign p own v.scope name value)
  unfolding typed_stmt
  stmt-assign name value = refl

  pub stmt-set : (at : Span) (left : Expr) (name : Ident) (e : Expr)
      → typed_stmt p own (SetField at left name e) v ≡ result_map (still v) (set_field p own v.scope at left name e)
  unfolding typed_stmt
  stmt-set at left name e = refl

  pub stmt-write : (at : Span) (place e : Expr) → typed_stmt p own (Write at place e) v ≡ result_map (still v) (write p own v.scope at place e)
  unfolding typed_stmt
  stmt-write at place e = refl

  pub stmt-call : (name : Ident) (args : List Expr) → typed_stmt p own (Call name args) v ≡ result_map (still v) (call p own v.scope name args)
  unfolding typed_stmt
  stmt-call name args = refl

  pub stmt-if : (at : Span) (test : Expr) (first second : List Stmt)
      → typed_stmt p own (If at test first second) v
      ≡ after (branch at (inner_block (typed_stmts p own first)) (inner_block (typed_stmts p own second)) v) (condition p own v.scope test)
  unfolding typed_stmt
  stmt-if at test first second = λ i. after
      (branch at (inner_block (λ b. row-list p own first b i)) (inner_block (λ b. row-list p own second b i)) v) (condition p own v.scope test)

  pub stmt-while : (at : Span) (test : Expr) (body : List Stmt)
      → typed_stmt p own (While at test body) v ≡ after (loop at (inner_block (typed_stmts p own body)) v) (condition p own v.scope test)
  unfolding typed_stmt
  stmt-while at test body = λ i. after (loop at (inner_block (λ b. row-list p own body b i)) v) (condition p own v.scope test)

  pub stmt-return : (at : Span) → typed_stmt p own (Return at) v ≡ Ok (step (ReturnTyped at) v)
  unfolding typed_stmt
  stmt-return at = refl

  pub stmt-break : (at : Span) → typed_stmt p own (Break at) v ≡ Ok (step (BreakTyped at) v)
  unfolding typed_stmt
  stmt-break at = refl

  pub stmt-continue : (at : Span) → typed_stmt p own (Continue at) v ≡ Ok (step (ContinueTyped at) v)
  unfolding typed_stmt
  stmt-continue at = refl

pub ruleset statement_steps =
    (stmt-declare, stmt-assign, stmt-set, stmt-write, stmt-call, stmt-if, stmt-while, stmt-return, stmt-break, stmt-continue)
