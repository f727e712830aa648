-- A walk of statements only adds variables.
use Rattle.std.proofs.Common.{ℕ, Option, Result, List, length}
use Rattle.std.specs.Prelude.{IfOk}
use Rattle.ceal_base.specs.declared.fault.Fault.{Fault}
use Rattle.ceal_base.specs.declared.fault.FaultCode.TheVariants.{N2}
use Rattle.ceal_base.specs.declared.syntax.Stmt.{Stmt, Declare, Assign, SetField, Write, Call, If', While', Return, Break, Continue}
use Rattle.ceal_base.specs.declared.syntax.Stmt.{Row_of-Stmt, end_of-Stmt, more_of-Stmt}
use Rattle.ceal_base.specs.declared.typed.TypedStmt.{TypedStmt}
use Rattle.ceal_types.specs.Expressions.{condition}
use Rattle.ceal_types.specs.Heads.{kind_of}
use Rattle.ceal_types.specs.Statements.{Step, Block, still, empty_block, block_end, inner_block, with_step, with_stmt}
use Rattle.ceal_types.specs.Statements.{declaration, declare, assign, set_field, write, call, if_step, choose, branch}
use Rattle.ceal_types.specs.Statements.{while_step, loop, typed_value, typed_stmt, typed_row, typed_stmts}
use Rattle.ceal_types.specs.Tables.{has}
use Rattle.ceal_types.specs.Walk.{fault, result_map}
use Rattle.ceal_types.specs.declared.program.Program.{Program}
use Rattle.ceal_types.specs.declared.program.Variables.{Variables}
use Rattle.ceal_types.proofs.Walks.LongerList.{Grows, grows-same, grows-more, grows-on}
use Rattle.ceal_types.proofs.Walks.WalkKeeps.{after-keeps, mapped-keeps, if-keeps, any-ok, turn-keeps}

abbrev Any : {A : Type 0} → A → Type 0
Any x = Unit {0}

abbrev StepGrows : Variables → Step → Type 0
StepGrows v s = Grows v.kinds s.variables.kinds

abbrev pub BlockGrows : Variables → Block → Type 0
BlockGrows v b = Grows v.kinds b.variables.kinds

module _ (p : Program) (own : Option ℕ) where
  still-grows : (v : Variables) (r : Result TypedStmt Fault) → IfOk (result_map (still v) r) (StepGrows v)
  still-grows v r = mapped-keeps Any (StepGrows v) (still v) r (any-ok r) (λ s u. grows-same v.kinds)

  nested-grows : (v : Variables) (walk : Block → Result Block Fault) → ((b : Block) → BlockGrows v b → IfOk (walk b) (BlockGrows v))
      → IfOk (inner_block walk v) (BlockGrows v)
  nested-grows v walk keep =
      mapped-keeps (BlockGrows v) (BlockGrows v) (block_end (length v.scope)) (walk (empty_block v)) (keep (empty_block v) (grows-same v.kinds)) (λ b h. h)

  mutual
    unfolding typed_stmt

    stmt-grows : (s : Stmt) (v : Variables) → IfOk (typed_stmt p own s v) (StepGrows v)
    stmt-grows (Declare at form name value) v =
        after-keeps Any (StepGrows v) (declare p own at name value v) (kind_of p.names form) (any-ok (kind_of p.names form))
        (λ kind u. if-keeps (StepGrows v) (has v.scope name.text) (fault N2 name.span) (result_map (declaration at name kind v) (typed_value p own v.scope kind value)) (λ b. tt)
        (λ b. mapped-keeps Any (StepGrows v) (declaration at name kind v) (typed_value p own v.scope kind value) (any-ok (typed_value p own v.scope kind value))
        (λ t w. grows-more v.kinds v.kinds kind (grows-same v.kinds))))
    stmt-grows (Assign name value) v = still-grows v (assign p own v.scope name value)
    stmt-grows (SetField at left name e) v = still-grows v (set_field p own v.scope at left name e)
    stmt-grows (Write at place e) v = still-grows v (write p own v.scope at place e)
    stmt-grows (Call name args) v = still-grows v (call p own v.scope name args)
    stmt-grows (If' at test _ first _ second) v =
        after-keeps Any (StepGrows v) (branch at (inner_block (typed_row p own first)) (inner_block (typed_row p own second)) v) (condition p own v.scope test) (any-ok (condition p own v.scope test))
        (λ t u. after-keeps (BlockGrows v) (StepGrows v) (choose at t (inner_block (typed_row p own second))) (inner_block (typed_row p own first) v)
        (nested-grows v (typed_row p own first) (row-grows first v))
        (λ a h. mapped-keeps (BlockGrows a.variables) (StepGrows v) (if_step at t a) (inner_block (typed_row p own second) a.variables)
        (nested-grows a.variables (typed_row p own second) (row-grows second a.variables))
        (λ b k. grows-on v.kinds a.variables.kinds b.variables.kinds h k)))
    stmt-grows (While' at test _ body) v =
        after-keeps Any (StepGrows v) (loop at (inner_block (typed_row p own body)) v) (condition p own v.scope test) (any-ok (condition p own v.scope test))
        (λ t u. mapped-keeps (BlockGrows v) (StepGrows v) (while_step at t) (inner_block (typed_row p own body) v)
        (nested-grows v (typed_row p own body) (row-grows body v)) (λ b h. h))
    stmt-grows (Return at) v = grows-same v.kinds
    stmt-grows (Break at) v = grows-same v.kinds
    stmt-grows (Continue at) v = grows-same v.kinds

    row-grows : {n : _} → (row : Row_of-Stmt n) (v : Variables) (b : Block) → BlockGrows v b → IfOk (typed_row p own row b) (BlockGrows v)
    row-grows end_of-Stmt v b h = h
    row-grows (more_of-Stmt s rest) v b h =
        after-keeps (BlockGrows v) (BlockGrows v) (typed_row p own rest) (result_map (with_step b) (typed_stmt p own s b.variables))
        (mapped-keeps (StepGrows b.variables) (BlockGrows v) (with_step b) (typed_stmt p own s b.variables) (stmt-grows s b.variables)
        (λ st k. grows-on v.kinds b.variables.kinds st.variables.kinds h k))
        (row-grows rest v)

  -- the body of a function
  pub body-grows : (xs : List Stmt) (v : Variables) → IfOk (inner_block (typed_stmts p own xs) v) (BlockGrows v)
  body-grows xs v = nested-grows v (typed_stmts p own xs) (turn-keeps (with_stmt p own) (BlockGrows v)
      (λ s b h. mapped-keeps (StepGrows b.variables) (BlockGrows v) (with_step b) (typed_stmt p own s b.variables) (stmt-grows s b.variables)
      (λ st k. grows-on v.kinds b.variables.kinds st.variables.kinds h k))
      xs)
