-- In a statement that the walk gives each name has its number.
use Rattle.std.proofs.Common.{◌≡◌, ℕ, Option, Some, None, Result, Ok, List, [], ◌∷◌, ◌++◌, map, position, length, refl, sym, subst, ap, ◌∙◌, append_assoc, append-nil}
use Rattle.std.specs.Prelude.{IfOk}
use Rattle.std.specs.Map.{keys_of, lookup}
use Rattle.std.specs.Option.{option_map}
use Rattle.std.specs.Str.{bytes_eq}
use Rattle.ceal_base.specs.WellTyped.{struct_name, function_name, kind_held}
use Rattle.ceal_base.specs.declared.fault.Fault.{Fault}
use Rattle.ceal_base.specs.declared.fault.FaultCode.TheVariants.{N2, T1}
use Rattle.ceal_base.specs.declared.fault.Span.{Span}
use Rattle.ceal_base.specs.declared.kind.FieldKind.{FieldKind}
use Rattle.ceal_base.specs.declared.kind.FieldKind.TheVariants.{Plain as PlainField, CellInt, CellPtr}
use Rattle.ceal_base.specs.declared.kind.Kind.{Kind}
use Rattle.ceal_base.specs.declared.kind.Kind.TheVariants.{Ptr, ModInt, ModPtr}
use Rattle.ceal_base.specs.declared.syntax.Expr.{Expr}
use Rattle.ceal_base.specs.declared.syntax.Ident.{Ident}
use Rattle.ceal_base.specs.declared.syntax.Stmt.{Stmt, Declare, Assign, SetField, Write, Call, If', While', Return, Break, Continue}
use Rattle.ceal_base.specs.declared.syntax.Stmt.{Row_of-Stmt, end_of-Stmt, more_of-Stmt}
use Rattle.ceal_base.specs.declared.syntax.TypeForm.{TypeForm}
use Rattle.ceal_base.specs.declared.syntax.TypeForm.TheVariants as forms
use Rattle.ceal_base.specs.declared.syntax.Value.{Value}
use Rattle.ceal_base.specs.declared.syntax.Value.TheVariants.{Plain, Read, Alloc, ModrefInt, Modref}
use Rattle.ceal_base.specs.declared.typed.TypedExpr.{TypedExpr}
use Rattle.ceal_base.specs.declared.typed.TypedFunction.{TypedFunction}
use Rattle.ceal_base.specs.declared.typed.TypedStmt.{TypedStmt}
use Rattle.ceal_base.specs.declared.typed.TypedStmt.{SetField as SetTyped, Write as WriteTyped}
use Rattle.ceal_base.specs.declared.typed.TypedValue.TheVariants.{Plain as PlainTyped, Read as ReadTyped, Alloc as AllocTyped, ModrefInt as ModrefIntTyped, Modref as ModrefTyped}
use Rattle.ceal_types.specs.Checked.{struct_info}
use Rattle.ceal_types.specs.Expressions.{Scope, typed_expr, typed_exprs, condition, member}
use Rattle.ceal_types.specs.Heads.{number_or_fault, struct_number, kind_of}
use Rattle.ceal_base.specs.Kinds.{same_kind}
use Rattle.ceal_types.specs.Kinds.{suits}
use Rattle.ceal_types.specs.Resolves.{Environment, IsStruct, IsFunction, IsKind, ExprResolves, ExprsResolve, ValueResolves, StmtResolves, RowResolves, StmtsResolve, in_scope}
use Rattle.ceal_types.specs.Statements.{Step, Block, still, empty_block, block_end, inner_block, with_step, declaration}
use Rattle.ceal_types.specs.Statements.{declare, assignment, assign_if_found, assign, plain_kind, set_suited, set_value}
use Rattle.ceal_types.specs.Statements.{set_member, set_left, set_field, write_held, write_of, write, call_of}
use Rattle.ceal_types.specs.Statements.{call_checked, call_if_found, call, call_suits, if_step, choose, branch}
use Rattle.ceal_types.specs.Statements.{while_step, loop, asked_for, plain_value, held_value, read_value, modref_value}
use Rattle.ceal_types.specs.Statements.{block_value, alloc_suits, alloc_value, alloc_by, alloc_of, typed_value}
use Rattle.ceal_types.specs.Statements.{typed_stmt, typed_row, typed_stmts}
use Rattle.ceal_types.specs.Tables.{has, find}
use Rattle.ceal_types.specs.Walk.{fault, after, result_map, in_turn}
use Rattle.ceal_types.specs.declared.program.Head.{Head}
use Rattle.ceal_types.specs.declared.program.Member.{Member}
use Rattle.ceal_types.specs.declared.program.Program.{Program}
use Rattle.ceal_types.specs.declared.program.Variable.{Variable}
use Rattle.ceal_types.specs.declared.program.Variables.{Variables}
use Rattle.ceal_types.proofs.Resolution.ExpressionResolved.{Whole, Found, member-named, expr-resolved, exprs-resolved, condition-resolved}
use Rattle.ceal_types.proofs.Walks.LongerList.{Grows, grows-same, grows-more, grows-on, grows-take}
use Rattle.ceal_types.proofs.Walks.WalkKeeps.{after-keeps, mapped-keeps, both-keeps, if-keeps, weaken, any-ok}
use Rattle.ceal_types.proofs.Resolution.NumbersOfNames.{numbers, numbers-added, number_of, lookup-numbers, first, find-number}
use Rattle.ceal_types.proofs.NameNumbers.NumberOfName.{absent}

module _ (p : Program) (fs : List TypedFunction) (names : p.names ≡ map struct_name (map struct_info p.structs)) (functions : map function_name fs ≡ keys_of p.functions) where
  -- ---- structs, functions and types
  number-named : (name : Ident) (o : Option ℕ) → position (bytes_eq name.text) p.names ≡ o → IfOk (number_or_fault name o) (λ s. position (bytes_eq name.text) p.names ≡ Some s)
  number-named name None is = tt
  number-named name (Some s) is = is

  pub struct-named : (name : Ident) → IfOk (struct_number p.names name) (IsStruct (Whole p fs) name)
  struct-named name =
      weaken (λ s. position (bytes_eq name.text) p.names ≡ Some s) (IsStruct (Whole p fs) name) (struct_number p.names name)
      (λ s h. ap (position (bytes_eq name.text)) (sym names) ∙ h) (number-named name (position (bytes_eq name.text) p.names) refl)

  pub function-named : (name : Ident) (f : ℕ × Head) → find p.functions name.text ≡ Some f → IsFunction (Whole p fs) name f.0
  function-named name f is = ap (position (bytes_eq name.text)) functions ∙ sym (find-number p.functions name.text) ∙ ap (option_map first) is

  pub kind-named : (form : TypeForm) → IfOk (kind_of p.names form) (IsKind (Whole p fs) form)
  kind-named forms.Int = refl
  kind-named (forms.Ptr name) = mapped-keeps (IsStruct (Whole p fs) name) (IsKind (Whole p fs) (forms.Ptr name)) Ptr (struct_number p.names name) (struct-named name) (λ s h. (s, h, refl))
  kind-named forms.ModInt = refl
  kind-named (forms.ModPtr name) = mapped-keeps (IsStruct (Whole p fs) name) (IsKind (Whole p fs) (forms.ModPtr name)) ModPtr (struct_number p.names name) (struct-named name) (λ s h. (s, h, refl))
  kind-named forms.CellInt = refl
  kind-named (forms.CellPtr name) = mapped-keeps (IsStruct (Whole p fs) name) (IsKind (Whole p fs) (forms.CellPtr name)) ModPtr (struct_number p.names name) (struct-named name) (λ s h. (s, h, refl))
  kind-named (forms.CellRow row) = refl
  kind-named (forms.CellPtrRow name row) =
      mapped-keeps (IsStruct (Whole p fs) name) (IsKind (Whole p fs) (forms.CellPtrRow name row)) ModPtr (struct_number p.names name) (struct-named name) (λ s h. (s, h, refl))

  module _ (own : Option ℕ) where
    -- ---- values
    asked-resolved : {A : Type 0} (Q : A → Type 0) (asked given : Kind) (at : Span) (x : A) → Q x → IfOk (asked_for asked given at x) Q
    asked-resolved Q asked given at x h = if-keeps Q (same_kind asked given) (Ok x) (fault T1 at) (λ b. h) (λ b. tt)

    module _ (scope : Scope) where
      held-resolved : (asked : Kind) (at : Span) (e : Expr) (x : TypedExpr) → ExprResolves (Whole p fs) (numbers scope) e x → (o : Option Kind)
          → IfOk (held_value asked at x o) (ValueResolves (Whole p fs) (numbers scope) (Read at e))
      held-resolved asked at e x h None = tt
      held-resolved asked at e x h (Some kind) = asked-resolved (ValueResolves (Whole p fs) (numbers scope) (Read at e)) asked kind at (ReadTyped at x) (x, h, refl)

      alloc-resolved : (asked : Kind) (at : Span) (structure name : Ident) (args : List Expr) (s : ℕ) → IsStruct (Whole p fs) structure s
          → (o : Option (ℕ × Head)) → find p.functions name.text ≡ o
          → IfOk (alloc_by p own scope asked at structure name args s o) (ValueResolves (Whole p fs) (numbers scope) (Alloc at structure name args))
      alloc-resolved asked at structure name args s h None is = tt
      alloc-resolved asked at structure name args s h (Some f) is =
          let Q = ValueResolves (Whole p fs) (numbers scope) (Alloc at structure name args) in
          after-keeps (ExprsResolve (Whole p fs) (numbers scope) args) Q (alloc_value asked at structure name s f) (typed_exprs p own scope args) (exprs-resolved p fs own scope args)
          (λ xs k. after-keeps (λ u. Unit {0}) Q (block_value asked at name s f.0 xs) (alloc_suits structure name s f.1 xs) (any-ok (alloc_suits structure name s f.1 xs))
          (λ u w. asked-resolved Q asked (Ptr s) at (AllocTyped at s f.0 name.span xs) (s, f.0, xs, h, function-named name f is, k, refl)))

      pub value-resolved : (asked : Kind) (value : Value) → IfOk (typed_value p own scope asked value) (ValueResolves (Whole p fs) (numbers scope) value)
      unfolding typed_value
      value-resolved asked (Plain e) =
          after-keeps (ExprResolves (Whole p fs) (numbers scope) e) (ValueResolves (Whole p fs) (numbers scope) (Plain e)) (plain_value asked) (typed_expr p own scope e)
          (expr-resolved p fs own scope e)
          (λ x h. if-keeps (ValueResolves (Whole p fs) (numbers scope) (Plain e)) (suits asked x.kind) (Ok (PlainTyped x)) (fault T1 x.span) (λ b. (x, h, refl)) (λ b. tt))
      value-resolved asked (Read at e) =
          after-keeps (ExprResolves (Whole p fs) (numbers scope) e) (ValueResolves (Whole p fs) (numbers scope) (Read at e)) (read_value asked at) (typed_expr p own scope e)
          (expr-resolved p fs own scope e) (λ x h. held-resolved asked at e x h (kind_held x.kind))
      value-resolved asked (Alloc at structure name args) =
          after-keeps (IsStruct (Whole p fs) structure) (ValueResolves (Whole p fs) (numbers scope) (Alloc at structure name args)) (alloc_of p own scope asked at structure name args)
          (struct_number p.names structure) (struct-named structure)
          (λ s h. alloc-resolved asked at structure name args s h (find p.functions name.text) refl)
      value-resolved asked (ModrefInt at) = asked-resolved (ValueResolves (Whole p fs) (numbers scope) (ModrefInt at)) asked ModInt at (ModrefIntTyped at) refl
      value-resolved asked (Modref at structure) =
          after-keeps (IsStruct (Whole p fs) structure) (ValueResolves (Whole p fs) (numbers scope) (Modref at structure)) (modref_value asked at) (struct_number p.names structure)
          (struct-named structure)
          (λ s h. asked-resolved (ValueResolves (Whole p fs) (numbers scope) (Modref at structure)) asked (ModPtr s) at (ModrefTyped at s) (s, h, refl))

      -- ---- statements that declare nothing
      abbrev Agrees : Stmt → TypedStmt → Type 0
      Agrees s t = StmtResolves (Whole p fs) (numbers scope) s t

      assigned-resolved : (name : Ident) (value : Value) (o : Option Variable) → lookup (bytes_eq name.text) scope ≡ o
          → IfOk (assign_if_found p own name value scope o) (Agrees (Assign name value))
      unfolding StmtResolves
      assigned-resolved name value None is = tt
      assigned-resolved name value (Some v) is =
          mapped-keeps (ValueResolves (Whole p fs) (numbers scope) value) (Agrees (Assign name value)) (assignment name v.number) (typed_value p own scope v.kind value)
          (value-resolved v.kind value)
          (λ x h. (v.number, x, lookup-numbers (bytes_eq name.text) scope ∙ ap (option_map number_of) is, h, refl))

      set-kind : (at : Span) (left : Expr) (name : Ident) (e : Expr) (y : TypedExpr) (m : Member) → ExprResolves (Whole p fs) (numbers scope) left y → Found p fs name m
          → (kind : FieldKind) → IfOk (after (set_value p own scope at e y m) (plain_kind name kind)) (Agrees (SetField at left name e))
      unfolding StmtResolves
      set-kind at left name e y m h g (PlainField kind) =
          after-keeps (ExprResolves (Whole p fs) (numbers scope) e) (Agrees (SetField at left name e)) (set_suited at y m kind) (typed_expr p own scope e) (expr-resolved p fs own scope e)
          (λ x k. if-keeps (Agrees (SetField at left name e)) (suits kind x.kind) (Ok (SetTyped at y m.shape m.field x)) (fault T1 x.span)
          (λ b. (y, m.shape, m.field, m.row, x, h, g, k, refl)) (λ b. tt))
      set-kind at left name e y m h g CellInt = tt
      set-kind at left name e y m h g (CellPtr t) = tt

      set-resolved : (at : Span) (left : Expr) (name : Ident) (e : Expr) → IfOk (set_field p own scope at left name e) (Agrees (SetField at left name e))
      set-resolved at left name e =
          after-keeps (ExprResolves (Whole p fs) (numbers scope) left) (Agrees (SetField at left name e)) (set_left p own scope at name e) (typed_expr p own scope left)
          (expr-resolved p fs own scope left)
          (λ y h. after-keeps (Found p fs name) (Agrees (SetField at left name e)) (set_member p own scope at name e y) (member p.structs name y) (member-named p fs name y)
          (λ m g. set-kind at left name e y m h g m.kind))

      held-written : (at : Span) (place e : Expr) (y x : TypedExpr) → ExprResolves (Whole p fs) (numbers scope) place y → ExprResolves (Whole p fs) (numbers scope) e x
          → (o : Option Kind) → IfOk (write_held at y x o) (Agrees (Write at place e))
      unfolding StmtResolves
      held-written at place e y x h k None = tt
      held-written at place e y x h k (Some kind) =
          if-keeps (Agrees (Write at place e)) (suits kind x.kind) (Ok (WriteTyped at y x)) (fault T1 x.span) (λ b. (y, x, h, k, refl)) (λ b. tt)

      write-resolved : (at : Span) (place e : Expr) → IfOk (write p own scope at place e) (Agrees (Write at place e))
      write-resolved at place e =
          both-keeps (ExprResolves (Whole p fs) (numbers scope) place) (ExprResolves (Whole p fs) (numbers scope) e) (Agrees (Write at place e)) (write_of at)
          (typed_expr p own scope place) (typed_expr p own scope e) (expr-resolved p fs own scope place) (expr-resolved p fs own scope e)
          (λ y x h k. held-written at place e y x h k (kind_held y.kind))

      called-resolved : (name : Ident) (args : List Expr) (o : Option (ℕ × Head)) → find p.functions name.text ≡ o
          → IfOk (call_if_found p own scope name args o) (Agrees (Call name args))
      unfolding StmtResolves
      called-resolved name args None is = tt
      called-resolved name args (Some f) is =
          after-keeps (ExprsResolve (Whole p fs) (numbers scope) args) (Agrees (Call name args)) (call_checked name f) (typed_exprs p own scope args) (exprs-resolved p fs own scope args)
          (λ xs k. mapped-keeps (λ u. Unit {0}) (Agrees (Call name args)) (call_of name f.0 xs) (call_suits name f.1 xs) (any-ok (call_suits name f.1 xs))
          (λ u w. (f.0, xs, function-named name f is, k, refl)))

    -- ---- statements, and what is in scope after them
    record StepResolves (v : Variables) (s : Stmt) (t : Step) : Type 0 where
      agrees : StmtResolves (Whole p fs) (numbers v.scope) s t.stmt
      scope : numbers t.variables.scope ≡ in_scope (numbers v.scope) s t.stmt
      grows : Grows v.scope t.variables.scope

    -- more statements of a block
    record RowGoes (b : Block) {n : _} (row : Row_of-Stmt n) (c : Block) : Type 0 where
      more : List TypedStmt
      is : c.stmts ≡ b.stmts ++ more
      agrees : RowResolves (Whole p fs) (numbers b.variables.scope) row more
      grows : Grows b.variables.scope c.variables.scope

    record NestedResolves (v : Variables) {n : _} (row : Row_of-Stmt n) (b : Block) : Type 0 where
      agrees : RowResolves (Whole p fs) (numbers v.scope) row b.stmts
      scope : b.variables.scope ≡ v.scope

    still-resolves : (v : Variables) (s : Stmt) (r : Result TypedStmt Fault) → ((t : TypedStmt) → numbers v.scope ≡ in_scope (numbers v.scope) s t)
        → IfOk r (StmtResolves (Whole p fs) (numbers v.scope) s) → IfOk (result_map (still v) r) (StepResolves v s)
    still-resolves v s r same h =
        mapped-keeps (StmtResolves (Whole p fs) (numbers v.scope) s) (StepResolves v s) (still v) r h
        (λ t k. record { agrees = k; scope = same t; grows = grows-same v.scope })

    nested-resolves : (v : Variables) {n : _} (row : Row_of-Stmt n) → IfOk (typed_row p own row (empty_block v)) (RowGoes (empty_block v) row)
        → IfOk (inner_block (typed_row p own row) v) (NestedResolves v row)
    nested-resolves v row h =
        mapped-keeps (RowGoes (empty_block v) row) (NestedResolves v row) (block_end (length v.scope)) (typed_row p own row (empty_block v)) h
        (λ b k. record {
          agrees = subst (λ (l : List TypedStmt). RowResolves (Whole p fs) (numbers v.scope) row l) (sym k.is) k.agrees;
          scope = grows-take v.scope b.variables.scope k.grows;
        })

    -- one more statement of a block
    record With (b : Block) (s : Stmt) (c : Block) : Type 0 where
      stmt : TypedStmt
      is : c.stmts ≡ b.stmts ++ stmt ∷ []
      agrees : StmtResolves (Whole p fs) (numbers b.variables.scope) s stmt
      scope : numbers c.variables.scope ≡ in_scope (numbers b.variables.scope) s stmt
      grows : Grows b.variables.scope c.variables.scope

    with-resolves : (b : Block) (s : Stmt) (r : Result Step Fault) → IfOk r (StepResolves b.variables s) → IfOk (result_map (with_step b) r) (With b s)
    with-resolves b s r h =
        mapped-keeps (StepResolves b.variables s) (With b s) (with_step b) r h
        (λ t k. record { stmt = t.stmt; is = refl; agrees = k.agrees; scope = k.scope; grows = k.grows })

    -- a scope that is as it was
    back : (v : Variables) (scope : Scope) → scope ≡ v.scope → Grows v.scope scope
    back v scope is = subst (λ (l : Scope). Grows v.scope l) (sym is) (grows-same v.scope)

    declare-resolves : (v : Variables) (at : Span) (form : TypeForm) (name : Ident) (value : Value) (kind : Kind) → IsKind (Whole p fs) form kind
        → IfOk (declare p own at name value v kind) (StepResolves v (Declare at form name value))
    unfolding StmtResolves
    declare-resolves v at form name value kind h =
        if-keeps (StepResolves v (Declare at form name value)) (has v.scope name.text) (fault N2 name.span) (result_map (declaration at name kind v) (typed_value p own v.scope kind value)) (λ b. tt)
        (λ none. mapped-keeps (ValueResolves (Whole p fs) (numbers v.scope) value) (StepResolves v (Declare at form name value)) (declaration at name kind v) (typed_value p own v.scope kind value)
        (value-resolved v.scope kind value)
        (λ x k. record {
          agrees = (length v.kinds, kind, x, h, lookup-numbers (bytes_eq name.text) v.scope ∙ ap (option_map number_of) (absent v.scope name.text none), k, refl);
          scope = numbers-added v.scope name.text (record { number = length v.kinds; kind = kind });
          grows = grows-more v.scope v.scope _ (grows-same v.scope);
        }))

    mutual
      unfolding typed_stmt StmtResolves

      stmt-resolves : (s : Stmt) (v : Variables) → IfOk (typed_stmt p own s v) (StepResolves v s)
      stmt-resolves (Declare at form name value) v =
          after-keeps (IsKind (Whole p fs) form) (StepResolves v (Declare at form name value)) (declare p own at name value v) (kind_of p.names form) (kind-named form)
          (λ kind h. declare-resolves v at form name value kind h)
      stmt-resolves (Assign name value) v =
          still-resolves v (Assign name value) (assign p own v.scope name value) (λ t. refl) (assigned-resolved v.scope name value (lookup (bytes_eq name.text) v.scope) refl)
      stmt-resolves (SetField at left name e) v = still-resolves v (SetField at left name e) (set_field p own v.scope at left name e) (λ t. refl) (set-resolved v.scope at left name e)
      stmt-resolves (Write at place e) v = still-resolves v (Write at place e) (write p own v.scope at place e) (λ t. refl) (write-resolved v.scope at place e)
      stmt-resolves (Call name args) v =
          still-resolves v (Call name args) (call p own v.scope name args) (λ t. refl) (called-resolved v.scope name args (find p.functions name.text) refl)
      stmt-resolves (If' at test _ first _ second) v =
          after-keeps (ExprResolves (Whole p fs) (numbers v.scope) test)
          (StepResolves v (If' at test _ first _ second))
          (branch at (inner_block (typed_row p own first)) (inner_block (typed_row p own second)) v)
          (condition p own v.scope test) (condition-resolved p fs own v.scope test)
          (λ x h. after-keeps (NestedResolves v first) (StepResolves v (If' at test _ first _ second)) (choose at x (inner_block (typed_row p own second))) (inner_block (typed_row p own first) v)
          (nested-resolves v first (row-goes first (empty_block v)))
          (λ a k. mapped-keeps (NestedResolves a.variables second) (StepResolves v (If' at test _ first _ second)) (if_step at x a) (inner_block (typed_row p own second) a.variables)
          (nested-resolves a.variables second (row-goes second (empty_block a.variables)))
          (λ b l. record {
            agrees = (x, a.stmts, b.stmts, h, k.agrees, subst (λ (l : Scope). RowResolves (Whole p fs) (numbers l) second b.stmts) k.scope l.agrees, refl);
            scope = ap numbers (l.scope ∙ k.scope);
            grows = back v b.variables.scope (l.scope ∙ k.scope);
          })))
      stmt-resolves (While' at test _ body) v =
          after-keeps (ExprResolves (Whole p fs) (numbers v.scope) test) (StepResolves v (While' at test _ body)) (loop at (inner_block (typed_row p own body)) v)
          (condition p own v.scope test) (condition-resolved p fs own v.scope test)
          (λ x h. mapped-keeps (NestedResolves v body) (StepResolves v (While' at test _ body)) (while_step at x) (inner_block (typed_row p own body) v)
          (nested-resolves v body (row-goes body (empty_block v)))
          (λ b k. record { agrees = (x, b.stmts, h, k.agrees, refl); scope = ap numbers k.scope; grows = back v b.variables.scope k.scope }))
      stmt-resolves (Return at) v = record { agrees = refl; scope = refl; grows = grows-same v.scope }
      stmt-resolves (Break at) v = record { agrees = refl; scope = refl; grows = grows-same v.scope }
      stmt-resolves (Continue at) v = record { agrees = refl; scope = refl; grows = grows-same v.scope }

      row-goes : {n : _} → (row : Row_of-Stmt n) (b : Block) → IfOk (typed_row p own row b) (RowGoes b row)
      row-goes end_of-Stmt b = record { more = []; is = sym (append-nil b.stmts); agrees = tt; grows = grows-same b.variables.scope }
      row-goes (more_of-Stmt s rest) b =
          after-keeps (With b s) (RowGoes b (more_of-Stmt s rest)) (typed_row p own rest) (result_map (with_step b) (typed_stmt p own s b.variables))
          (with-resolves b s (typed_stmt p own s b.variables) (stmt-resolves s b.variables))
          (λ c w. weaken (RowGoes c rest) (RowGoes b (more_of-Stmt s rest)) (typed_row p own rest c)
          (λ d k. record {
            more = w.stmt ∷ k.more;
            is = k.is ∙ ap (λ (l : List TypedStmt). l ++ k.more) w.is ∙ append_assoc b.stmts (w.stmt ∷ []) k.more;
            agrees = (w.agrees, subst (λ (l : Environment). RowResolves (Whole p fs) l rest k.more) w.scope k.agrees);
            grows = grows-on b.variables.scope c.variables.scope d.variables.scope w.grows k.grows;
          })
          (row-goes rest c))

    -- the statements of a body
    record StmtsGo (b : Block) (ss : List Stmt) (c : Block) : Type 0 where
      more : List TypedStmt
      is : c.stmts ≡ b.stmts ++ more
      agrees : StmtsResolve (Whole p fs) (numbers b.variables.scope) ss more
      grows : Grows b.variables.scope c.variables.scope

    stmts-go : (ss : List Stmt) (b : Block) → IfOk (typed_stmts p own ss b) (StmtsGo b ss)
    unfolding in_turn
    stmts-go [] b = record { more = []; is = sym (append-nil b.stmts); agrees = tt; grows = grows-same b.variables.scope }
    stmts-go (s ∷ ss) b =
        after-keeps (With b s) (StmtsGo b (s ∷ ss)) (typed_stmts p own ss) (result_map (with_step b) (typed_stmt p own s b.variables))
        (with-resolves b s (typed_stmt p own s b.variables) (stmt-resolves s b.variables))
        (λ c w. weaken (StmtsGo c ss) (StmtsGo b (s ∷ ss)) (typed_stmts p own ss c)
        (λ d k. record {
          more = w.stmt ∷ k.more;
          is = k.is ∙ ap (λ (l : List TypedStmt). l ++ k.more) w.is ∙ append_assoc b.stmts (w.stmt ∷ []) k.more;
          agrees = (w.agrees, subst (λ (l : Environment). StmtsResolve (Whole p fs) l ss k.more) w.scope k.agrees);
          grows = grows-on b.variables.scope c.variables.scope d.variables.scope w.grows k.grows;
        })
        (stmts-go ss c))

    pub body-resolves : (ss : List Stmt) (v : Variables) → IfOk (inner_block (typed_stmts p own ss) v) (λ b. StmtsResolve (Whole p fs) (numbers v.scope) ss b.stmts)
    body-resolves ss v =
        mapped-keeps (StmtsGo (empty_block v) ss) (λ b. StmtsResolve (Whole p fs) (numbers v.scope) ss b.stmts)
        (block_end (length v.scope)) (typed_stmts p own ss (empty_block v)) (stmts-go ss (empty_block v))
        (λ b k. subst (λ (l : List TypedStmt). StmtsResolve (Whole p fs) (numbers v.scope) ss l) (sym k.is) k.agrees)
