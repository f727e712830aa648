-- A statement that agrees with one of the source and is well typed is what the walk gives.
use Rattle.std.proofs.Common.{◌≡◌, ℕ, ◌+◌, ◌==◌, arith, true, false, Option, Some, None, Result, Ok, List, [], ◌∷◌}
use Rattle.std.proofs.Common.{◌++◌, All, map, position, slice_get, length, refl, sym, subst, ap, ◌∙◌, append_assoc}
use Rattle.std.proofs.Common.{append-nil, if◌then◌else◌}
use Rattle.std.specs.Prelude.{IfSome, MatchOption, is_some}
use Rattle.std.specs.Map.{keys_of, lookup}
use Rattle.std.specs.Option.{option_map}
use Rattle.std.specs.Str.{bytes_eq}
use Rattle.std.proofs.lemmas.List.{length_push}
use Rattle.std.proofs.lemmas.List.Elements.{All-push}
use Rattle.std.proofs.lemmas.Map.Entries.{All-lookup}
use Rattle.std.proofs.lemmas.Bool.Decides.{Decides-eqb}
use Rattle.ceal_base.specs.WellTyped.{Context, ExprTyped, ExprSuits, ArgsSuit, CallSuits, AllocSuits, ValueTyped}
use Rattle.ceal_base.specs.WellTyped.{StmtTyped, RowTyped, StmtsTyped, kind_held, field_kind, param_kinds, declarations}
use Rattle.ceal_base.specs.WellTyped.{row_declarations, all_declarations, seen_after, struct_name, function_name}
use Rattle.ceal_base.specs.WellTyped.{plain_kind as kind_of_plain}
use Rattle.ceal_base.specs.declared.fault.Fault.{Fault}
use Rattle.ceal_base.specs.declared.fault.FaultCode.TheVariants.{N2, T1, T2}
use Rattle.ceal_base.specs.declared.fault.Span.{Span}
use Rattle.ceal_base.specs.declared.kind.FieldKind.{FieldKind}
use Rattle.ceal_base.specs.declared.kind.FieldKind.TheVariants.{Plain as PlainField, CellInt, CellPtr}
use Rattle.ceal_base.specs.declared.kind.Kind.{Kind}
use Rattle.ceal_base.specs.declared.kind.Kind.TheVariants.{Int, Ptr, ModInt, ModPtr}
use Rattle.ceal_base.specs.declared.syntax.Expr.{Expr}
use Rattle.ceal_base.specs.declared.syntax.Ident.{Ident}
use Rattle.ceal_base.specs.declared.syntax.Stmt.{Stmt, Declare, Assign, SetField, Write, Call, If', While', Return, Break, Continue}
use Rattle.ceal_base.specs.declared.syntax.Stmt.{Row_of-Stmt, end_of-Stmt, more_of-Stmt}
use Rattle.ceal_base.specs.declared.syntax.TypeForm.{TypeForm}
use Rattle.ceal_base.specs.declared.syntax.TypeForm.TheVariants as forms
use Rattle.ceal_base.specs.declared.syntax.Value.{Value}
use Rattle.ceal_base.specs.declared.syntax.Value.TheVariants.{Plain, Read, Alloc, ModrefInt, Modref}
use Rattle.ceal_base.specs.declared.typed.TypedExpr.{TypedExpr}
use Rattle.ceal_base.specs.declared.typed.TypedFunction.{TypedFunction}
use Rattle.ceal_base.specs.declared.typed.TypedStmt.{TypedStmt}
use Rattle.ceal_base.specs.declared.typed.TypedStmt.{Declare as DeclareTyped, Assign as AssignTyped}
use Rattle.ceal_base.specs.declared.typed.TypedStmt.{SetField as SetTyped, Write as WriteTyped, Call as CallTyped}
use Rattle.ceal_base.specs.declared.typed.TypedStmt.{Return as ReturnTyped, Break as BreakTyped}
use Rattle.ceal_base.specs.declared.typed.TypedStmt.{Continue as ContinueTyped}
use Rattle.ceal_base.specs.declared.typed.TypedStmt.TheBlock.{hidden-the_row-TypedStmt-0, shape-the_row-TypedStmt-0}
use Rattle.ceal_base.specs.declared.typed.TypedStmt.TheViews as statements
use Rattle.ceal_base.specs.declared.typed.TypedValue.{TypedValue}
use Rattle.ceal_base.specs.declared.typed.TypedValue.TheVariants.{Plain as PlainTyped, Read as ReadTyped, Alloc as AllocTyped, ModrefInt as ModrefIntTyped, Modref as ModrefTyped}
use Rattle.ceal_types.specs.Checked.{struct_info}
use Rattle.ceal_types.specs.Expressions.{Scope, typed_expr, typed_exprs, condition, member}
use Rattle.ceal_types.specs.Heads.{number_or_fault, struct_number, kind_of, with_variable}
use Rattle.ceal_base.specs.Kinds.{same_kind}
use Rattle.ceal_types.specs.Kinds.{suits}
use Rattle.ceal_types.specs.Resolves.{Environment, IsStruct, IsFunction, IsKind, IsVariable, IsMember, ExprResolves, ExprsResolve, ValueResolves, StmtResolves, RowResolves, StmtsResolve, in_scope}
use Rattle.ceal_types.specs.Statements.{Block, step, block, still, empty_block, block_end, inner_block, with_step}
use Rattle.ceal_types.specs.Statements.{declaration, declare, assignment, assign_if_found, assign, plain_kind}
use Rattle.ceal_types.specs.Statements.{set_suited, set_value, set_member, set_left, set_field, write_held, write_of}
use Rattle.ceal_types.specs.Statements.{write, call_of, call_checked, call_if_found, call, call_suits, call_by_own}
use Rattle.ceal_types.specs.Statements.{arguments_suit, if_step, choose, branch, while_step, loop, asked_for}
use Rattle.ceal_types.specs.Statements.{plain_value, held_value, read_value, modref_value, block_value, alloc_suits}
use Rattle.ceal_types.specs.Statements.{alloc_by_own, alloc_value, alloc_by, alloc_of, typed_value, typed_stmt}
use Rattle.ceal_types.specs.Statements.{typed_row, typed_stmts}
use Rattle.ceal_types.specs.Tables.{Name, has, find, value_at}
use Rattle.ceal_types.specs.Walk.{fault, after, result_map, in_turn}
use Rattle.ceal_types.specs.declared.program.Head.{Head}
use Rattle.ceal_types.specs.declared.program.Member.{Member}
use Rattle.ceal_types.specs.declared.program.Program.{Program}
use Rattle.ceal_types.specs.declared.program.Variable.{Variable}
use Rattle.ceal_types.specs.declared.program.Variables.{Variables}
use Rattle.ceal_types.proofs.Completeness.ExpressionComplete.{VariableKind, ScopeKinds, member-meant, expr-complete, exprs-complete, condition-complete}
use Rattle.ceal_types.proofs.Resolution.ExpressionResolved.{Whole}
use Rattle.ceal_types.proofs.Typing.ExpressionTyped.{around}
use Rattle.ceal_types.proofs.Walks.LongerList.{Grows, grows-same, grows-more, grows-on, grows-take}
use Rattle.ceal_types.proofs.NameNumbers.FoundPlace.{find-place}
use Rattle.ceal_types.proofs.Resolution.NumbersOfNames.{numbers, numbers-added, number_of, lookup-numbers, first}
use Rattle.ceal_types.proofs.Resolution.NumbersOfNames.{find-number, some-same, after-at, mapped-at, both-at, if-true}
use Rattle.ceal_types.proofs.Resolution.NumbersOfNames.{if-false, same-true, suits-true}
use Rattle.ceal_types.proofs.Typing.StatementTyped.{row-declarations}
use Rattle.ceal_types.proofs.Typing.ValueTyped.{HasHead, HeadsMatch}

-- ---- a list that continues with what is there
pub grows-next : {A : Type 0} (xs ys : List A) (x : A) → Grows xs ys → slice_get ys (length xs) ≡ Some x → Grows (xs ++ x ∷ []) ys
grows-next {A = A} xs ys x g h = next g.more g.is
  where
    at-end : (zs : List A) → slice_get (zs ++ []) (length zs) ≡ None
    at-end [] = refl
    at-end (z ∷ zs) = at-end zs

    at-next : (zs more : List A) (y : A) → slice_get (zs ++ y ∷ more) (length zs) ≡ Some y
    at-next [] more y = refl
    at-next (z ∷ zs) more y = at-next zs more y

    next : (more : List A) → ys ≡ xs ++ more → Grows (xs ++ x ∷ []) ys
    next [] is =
        let gone : None ≡ Some x = sym (at-end xs) ∙ ap (λ (l : List A). slice_get l (length xs)) (sym is) ∙ h in
        absurd (no-item x gone)
      where
        no-item : (x : A) → ◌≡◌ {A = Option A} None (Some x) → ⊥
        no-item x e = cc
    next (y ∷ more) is =
        let same : y ≡ x = some-same y x (sym (at-next xs more y) ∙ ap (λ (l : List A). slice_get l (length xs)) (sym is) ∙ h) in
        record { more = more; is = is ∙ sym (append_assoc xs (y ∷ []) more) ∙ ap (λ (z : A). (xs ++ z ∷ []) ++ more) same }

-- a name that has no number is not in scope
free : (scope : Scope) (name : Name) → lookup (bytes_eq name) (numbers scope) ≡ None → has scope name ≡ false
free scope name h = by (lookup (bytes_eq name) scope) (sym (lookup-numbers (bytes_eq name) scope) ∙ h)
  where
    by : (o : Option Variable) → option_map number_of o ≡ None → is_some o ≡ false
    by None e = refl
    by (Some v) e = cc

-- ---- arguments
args-long : (kinds : List Kind) (es : List TypedExpr) → ArgsSuit kinds es → length es ≡ length kinds
args-long [] [] h = refl
args-long [] (e ∷ es) h = absurd h
args-long (kind ∷ kinds) [] h = absurd h
args-long (kind ∷ kinds) (e ∷ es) h = omega (arith, args-long kinds es h.1)

args-complete : (kinds : List Kind) (es : List TypedExpr) → ArgsSuit kinds es → arguments_suit kinds es ≡ Ok tt
args-complete [] [] h = refl
args-complete [] (e ∷ es) h = absurd h
args-complete (kind ∷ kinds) [] h = absurd h
args-complete (kind ∷ kinds) (e ∷ es) h =
    if-true (suits kind e.kind) (arguments_suit kinds es) (fault T1 e.span) (Ok tt) (suits-true kind e.kind h.0) (args-complete kinds es h.1)

eqb-true : (a b : ℕ) → a ≡ b → (a == b) ≡ true
eqb-true a b h = (Decides-eqb a b).1 h

counted : (name : Ident) (kinds : List Kind) (es : List TypedExpr) (r : Result (Unit {0}) Fault) → ArgsSuit kinds es → r ≡ Ok tt
    → (if length es == length kinds then r else fault T2 name.span) ≡ Ok tt
counted name kinds es r h k = if-true (length es == length kinds) r (fault T2 name.span) (Ok tt) (eqb-true (length es) (length kinds) (args-long kinds es h)) k

call-own : (name : Ident) (o : Option ℕ) (kinds : List Kind) (es : List TypedExpr)
    → elim o as (λ _. Type 0) [ None ↦ ArgsSuit kinds es | Some s ↦ Unit {0} ] → call_by_own o kinds name es ≡ Ok tt
call-own name None kinds es h = counted name kinds es (arguments_suit kinds es) h (args-complete kinds es h)
call-own name (Some s) kinds es h = refl

alloc-own : (structure name : Ident) (shape : ℕ) (o : Option ℕ) (kinds : List Kind) (es : List TypedExpr)
    → elim o as (λ _. Type 0) [ None ↦ Unit {0} | Some s ↦ (s ≡ shape) × ArgsSuit kinds es ] → alloc_by_own o kinds structure name shape es ≡ Ok tt
alloc-own structure name shape None kinds es h = refl
alloc-own structure name shape (Some s) kinds es h =
    counted name kinds es (if s == shape then arguments_suit kinds es else fault T1 structure.span) h.1
    (if-true (s == shape) (arguments_suit kinds es) (fault T1 structure.span) (Ok tt) (eqb-true s shape h.0) (args-complete kinds es h.1))

module _ (fs : List TypedFunction) (n : ℕ) (f : Head) (has : HasHead fs n f) where
  call-complete : (name : Ident) (es : List TypedExpr) → CallSuits (slice_get fs n) es → call_suits name f es ≡ Ok tt
  call-complete name es h =
      let here = subst (λ (o : Option TypedFunction). CallSuits o es) has.there h in
      (λ i. call_by_own (sym has.own i) (sym has.kinds i) name es) ∙ call-own name has.function.initialiser (param_kinds has.function) es here

  alloc-complete : (structure name : Ident) (shape : ℕ) (es : List TypedExpr) → AllocSuits (slice_get fs n) shape es → alloc_suits structure name shape f es ≡ Ok tt
  alloc-complete structure name shape es h =
      let here = subst (λ (o : Option TypedFunction). AllocSuits o shape es) has.there h in
      (λ i. alloc_by_own (sym has.own i) (sym has.kinds i) structure name shape es)
      ∙ alloc-own structure name shape has.function.initialiser (param_kinds has.function) es here

asked-complete : {A : Type 0} (asked given : Kind) (at : Span) (x y : A) → asked ≡ given → x ≡ y → ◌≡◌ {A = Result A Fault} (asked_for asked given at x) (Ok y)
asked-complete asked given at x y h k = if-true (same_kind asked given) (Ok x) (fault T1 at) (Ok y) (same-true asked given h) (ap Ok k)

-- ---- rows of statements that are typed
row-untyped : (c : Context) (xs : List TypedStmt) (seen : List ℕ) (next : ℕ) → RowTyped c seen next (hidden-the_row-TypedStmt-0 xs) → StmtsTyped c seen next xs
unfolding StmtTyped StmtsTyped hidden-the_row-TypedStmt-0 shape-the_row-TypedStmt-0 denote.Hole.Carrier.hidden
row-untyped c [] seen next h = tt
row-untyped c (s ∷ xs) seen next h = (h.0, row-untyped c xs (seen_after seen s) (next + declarations s) h.1)

module _ (p : Program) (fs : List TypedFunction) (names : p.names ≡ map struct_name (map struct_info p.structs)) (functions : map function_name fs ≡ keys_of p.functions)
    (heads : HeadsMatch p.functions fs) where
  -- ---- structs, functions and types
  pub struct-complete : (name : Ident) (s : ℕ) → IsStruct (Whole p fs) name s → struct_number p.names name ≡ Ok s
  struct-complete name s h = ap (number_or_fault name) (ap (position (bytes_eq name.text)) names ∙ h)

  pub kind-complete : (form : TypeForm) (kind : Kind) → IsKind (Whole p fs) form kind → kind_of p.names form ≡ Ok kind
  kind-complete forms.Int kind h = ap Ok (sym h)
  kind-complete (forms.Ptr name) kind h = mapped-at Ptr (struct_number p.names name) h.0 kind (struct-complete name h.0 h.1) (sym h.2)
  kind-complete forms.ModInt kind h = ap Ok (sym h)
  kind-complete (forms.ModPtr name) kind h = mapped-at ModPtr (struct_number p.names name) h.0 kind (struct-complete name h.0 h.1) (sym h.2)
  kind-complete forms.CellInt kind h = ap Ok (sym h)
  kind-complete (forms.CellPtr name) kind h = mapped-at ModPtr (struct_number p.names name) h.0 kind (struct-complete name h.0 h.1) (sym h.2)
  kind-complete (forms.CellRow row) kind h = ap Ok (sym h)
  kind-complete (forms.CellPtrRow name row) kind h = mapped-at ModPtr (struct_number p.names name) h.0 kind (struct-complete name h.0 h.1) (sym h.2)

  -- the function of this name
  record FunctionThere (name : Ident) (f : ℕ) : Type 0 where
    head : Head
    is : find p.functions name.text ≡ Some (f, head)
    match : HasHead fs f head

  function-there : (name : Ident) (f : ℕ) → IsFunction (Whole p fs) name f → FunctionThere name f
  function-there name f h =
      by (find p.functions name.text) refl (find-place p.functions name.text) (find-number p.functions name.text ∙ ap (position (bytes_eq name.text)) (sym functions) ∙ h)
    where
      by : (o : Option (ℕ × Head)) → find p.functions name.text ≡ o → IfSome o (λ g. value_at p.functions g.0 ≡ Some g.1) → option_map first o ≡ Some f → FunctionThere name f
      by None is there e = cc
      by (Some g) is there e =
          let same = some-same g.0 f e in
          record {
            head = g.1;
            is = is ∙ ap (λ (n : ℕ). Some (n, g.1)) same;
            match = subst (λ (n : ℕ). HasHead fs n g.1) same (heads g.0 g.1 there);
          }

  module _ (own : Option ℕ) (kinds : List Kind) where
    abbrev Here : Context
    Here = around p fs own kinds

    module _ (seen : List ℕ) (scope : Scope) (good : ScopeKinds kinds scope) where
      -- ---- values
      abbrev Typed : Kind → TypedValue → Type 0
      Typed asked v = ValueTyped Here seen asked v

      plain-complete : (asked : Kind) (e : Expr) (x : TypedExpr) → ExprResolves (Whole p fs) (numbers scope) e x → Typed asked (PlainTyped x)
          → typed_value p own scope asked (Plain e) ≡ Ok (PlainTyped x)
      unfolding typed_value
      plain-complete asked e x h t =
          after-at (plain_value asked) (typed_expr p own scope e) x (Ok (PlainTyped x)) (expr-complete p fs own kinds seen scope good e x h t.0)
          (if-true (suits asked x.kind) (Ok (PlainTyped x)) (fault T1 x.span) (Ok (PlainTyped x)) (suits-true asked x.kind t.1) refl)

      read-complete : (asked : Kind) (at : Span) (e : Expr) (x : TypedExpr) → ExprResolves (Whole p fs) (numbers scope) e x → Typed asked (ReadTyped at x)
          → typed_value p own scope asked (Read at e) ≡ Ok (ReadTyped at x)
      unfolding typed_value
      read-complete asked at e x h t =
          after-at (read_value asked at) (typed_expr p own scope e) x (Ok (ReadTyped at x)) (expr-complete p fs own kinds seen scope good e x h t.0)
          (ap (held_value asked at x) t.1 ∙ asked-complete asked asked at (ReadTyped at x) (ReadTyped at x) refl refl)

      alloc-given : (asked : Kind) (at : Span) (structure name : Ident) (args : List Expr) (s f : ℕ) (xs : List TypedExpr) → IsStruct (Whole p fs) structure s
          → IsFunction (Whole p fs) name f → ExprsResolve (Whole p fs) (numbers scope) args xs → Typed asked (AllocTyped at s f name.span xs)
          → typed_value p own scope asked (Alloc at structure name args) ≡ Ok (AllocTyped at s f name.span xs)
      unfolding typed_value
      alloc-given asked at structure name args s f xs h k l t =
          let g = function-there name f k in
          after-at (alloc_of p own scope asked at structure name args) (struct_number p.names structure) s (Ok (AllocTyped at s f name.span xs)) (struct-complete structure s h)
          (ap (alloc_by p own scope asked at structure name args s) g.is
          ∙ after-at (alloc_value asked at structure name s (f, g.head)) (typed_exprs p own scope args) xs (Ok (AllocTyped at s f name.span xs))
          (exprs-complete p fs own kinds seen scope good args xs l t.2)
          (after-at (block_value asked at name s f xs) (alloc_suits structure name s g.head xs) tt (Ok (AllocTyped at s f name.span xs))
          (alloc-complete fs f g.head g.match structure name s xs t.3)
          (asked-complete asked (Ptr s) at (AllocTyped at s f name.span xs) (AllocTyped at s f name.span xs) t.1 refl)))

      int-made : (asked : Kind) (at : Span) → asked ≡ ModInt → typed_value p own scope asked (ModrefInt at) ≡ Ok (ModrefIntTyped at)
      unfolding typed_value
      int-made asked at h = asked-complete asked ModInt at (ModrefIntTyped at) (ModrefIntTyped at) h refl

      pointer-made : (asked : Kind) (at : Span) (structure : Ident) (s : ℕ) → IsStruct (Whole p fs) structure s → asked ≡ ModPtr s
          → typed_value p own scope asked (Modref at structure) ≡ Ok (ModrefTyped at s)
      unfolding typed_value
      pointer-made asked at structure s h k =
          after-at (modref_value asked at) (struct_number p.names structure) s (Ok (ModrefTyped at s)) (struct-complete structure s h)
          (asked-complete asked (ModPtr s) at (ModrefTyped at s) (ModrefTyped at s) k refl)

      pub value-complete : (asked : Kind) (value : Value) (v : TypedValue) → ValueResolves (Whole p fs) (numbers scope) value v → Typed asked v
          → typed_value p own scope asked value ≡ Ok v
      value-complete asked (Plain e) v h t = plain-complete asked e h.0 h.1 (subst (Typed asked) h.2 t) ∙ ap Ok (sym h.2)
      value-complete asked (Read at e) v h t = read-complete asked at e h.0 h.1 (subst (Typed asked) h.2 t) ∙ ap Ok (sym h.2)
      value-complete asked (Alloc at structure name args) v h t =
          alloc-given asked at structure name args h.0 h.1 h.2 h.3 h.4 h.5 (subst (Typed asked) h.6 t) ∙ ap Ok (sym h.6)
      value-complete asked (ModrefInt at) v h t = int-made asked at (subst (Typed asked) h t) ∙ ap Ok (sym h)
      value-complete asked (Modref at structure) v h t =
          let k = subst (Typed asked) h.2 t in
          pointer-made asked at structure h.0 h.1 k.1 ∙ ap Ok (sym h.2)

      -- ---- statements that declare nothing
      variable-there : (name : Ident) (n : ℕ) → IsVariable (numbers scope) name n
          → (v : Variable) × (lookup (bytes_eq name.text) scope ≡ Some v) × (v.number ≡ n) × (slice_get kinds n ≡ Some v.kind)
      variable-there name n h =
          by (lookup (bytes_eq name.text) scope) refl (All-lookup (VariableKind kinds) (bytes_eq name.text) scope good) (sym (lookup-numbers (bytes_eq name.text) scope) ∙ h)
        where
          by : (o : Option Variable) → lookup (bytes_eq name.text) scope ≡ o → IfSome o (VariableKind kinds) → option_map number_of o ≡ Some n
              → (v : Variable) × (lookup (bytes_eq name.text) scope ≡ Some v) × (v.number ≡ n) × (slice_get kinds n ≡ Some v.kind)
          by None is known e = cc
          by (Some v) is known e =
              let same = some-same v.number n e in
              (v, is, same, ap (slice_get kinds) (sym same) ∙ known)

      assign-complete : (name : Ident) (value : Value) (n : ℕ) (v : TypedValue) → IsVariable (numbers scope) name n → ValueResolves (Whole p fs) (numbers scope) value v
          → MatchOption (slice_get kinds n) ⊥ (λ kind. Typed kind v) → assign p own scope name value ≡ Ok (AssignTyped name.span n v)
      assign-complete name value n v h k t =
          let x = variable-there name n h in
          ap (assign_if_found p own name value scope) x.1
          ∙ mapped-at (assignment name x.0.number) (typed_value p own scope x.0.kind value) v (AssignTyped name.span n v)
          (value-complete x.0.kind value v k (subst (λ (o : Option Kind). MatchOption o ⊥ (λ kind. Typed kind v)) x.3 t))
          (ap (λ (m : ℕ). AssignTyped name.span m v) x.2)

      set-complete : (at : Span) (name : Ident) (e : Expr) (y : TypedExpr) (m : Member) (x : TypedExpr) → ExprResolves (Whole p fs) (numbers scope) e x
          → (kind : FieldKind) → MatchOption (kind_of_plain (Some kind)) ⊥ (λ k. ExprSuits Here seen k x)
          → after (set_value p own scope at e y m) (plain_kind name kind) ≡ Ok (SetTyped at y m.shape m.field x)
      set-complete at name e y m x h (PlainField kind) t =
          after-at (set_suited at y m kind) (typed_expr p own scope e) x (Ok (SetTyped at y m.shape m.field x)) (expr-complete p fs own kinds seen scope good e x h t.0)
          (if-true (suits kind x.kind) (Ok (SetTyped at y m.shape m.field x)) (fault T1 x.span) (Ok (SetTyped at y m.shape m.field x)) (suits-true kind x.kind t.1) refl)
      set-complete at name e y m x h CellInt t = absurd t
      set-complete at name e y m x h (CellPtr s) t = absurd t

      field-set : (at : Span) (left : Expr) (name : Ident) (e : Expr) (y : TypedExpr) (s f row : ℕ) (x : TypedExpr) → ExprResolves (Whole p fs) (numbers scope) left y
          → IsMember (Whole p fs) s name f row → ExprResolves (Whole p fs) (numbers scope) e x → ExprTyped Here seen y → y.kind ≡ Some (Ptr s)
          → MatchOption (kind_of_plain (field_kind (map struct_info p.structs) s f)) ⊥ (λ k. ExprSuits Here seen k x)
          → set_field p own scope at left name e ≡ Ok (SetTyped at y s f x)
      field-set at left name e y s f row x h k l t u w =
          let m = member-meant p.structs name y s f row u k.0 k.1 in
          after-at (set_left p own scope at name e) (typed_expr p own scope left) y (Ok (SetTyped at y s f x)) (expr-complete p fs own kinds seen scope good left y h t)
          (after-at (set_member p own scope at name e y) (member p.structs name y) m.meant (Ok (SetTyped at y s f x)) m.found
          (set-complete at name e y m.meant x l m.meant.kind (subst (λ (o : Option FieldKind). MatchOption (kind_of_plain o) ⊥ (λ k. ExprSuits Here seen k x)) m.kind w)
          ∙ (λ i. Ok (SetTyped at y (m.shape i) (m.field i) x))))

      held-complete : (at : Span) (y x : TypedExpr) (o : Option Kind) → MatchOption o ⊥ (λ k. ExprSuits Here seen k x) → write_held at y x o ≡ Ok (WriteTyped at y x)
      held-complete at y x None t = absurd t
      held-complete at y x (Some kind) t =
          if-true (suits kind x.kind) (Ok (WriteTyped at y x)) (fault T1 x.span) (Ok (WriteTyped at y x)) (suits-true kind x.kind t.1) refl

      held-typed : (x : TypedExpr) (o : Option Kind) → MatchOption o ⊥ (λ k. ExprSuits Here seen k x) → ExprTyped Here seen x
      held-typed x None t = absurd t
      held-typed x (Some kind) t = t.0

      write-complete : (at : Span) (place e : Expr) (y x : TypedExpr) → ExprResolves (Whole p fs) (numbers scope) place y → ExprResolves (Whole p fs) (numbers scope) e x
          → ExprTyped Here seen y → MatchOption (kind_held y.kind) ⊥ (λ k. ExprSuits Here seen k x) → write p own scope at place e ≡ Ok (WriteTyped at y x)
      write-complete at place e y x h k t u =
          both-at (write_of at) (typed_expr p own scope place) (typed_expr p own scope e) y x (Ok (WriteTyped at y x))
          (expr-complete p fs own kinds seen scope good place y h t) (expr-complete p fs own kinds seen scope good e x k (held-typed x (kind_held y.kind) u))
          (held-complete at y x (kind_held y.kind) u)

      called-complete : (name : Ident) (args : List Expr) (f : ℕ) (xs : List TypedExpr) → IsFunction (Whole p fs) name f → ExprsResolve (Whole p fs) (numbers scope) args xs
          → All (ExprTyped Here seen) xs → CallSuits (slice_get fs f) xs → call p own scope name args ≡ Ok (CallTyped name.span f xs)
      called-complete name args f xs h k t u =
          let g = function-there name f h in
          ap (call_if_found p own scope name args) g.is
          ∙ after-at (call_checked name (f, g.head)) (typed_exprs p own scope args) xs (Ok (CallTyped name.span f xs)) (exprs-complete p fs own kinds seen scope good args xs k t)
          (mapped-at (call_of name f xs) (call_suits name g.head xs) tt (CallTyped name.span f xs) (call-complete fs f g.head g.match name xs u) refl)

    -- ---- statements, and the variables after them
    -- the walk gives the statement, and leaves these variables
    record Walked (v : Variables) (s : Stmt) (t : TypedStmt) : Type 0 where
      left : Variables
      is : typed_stmt p own s v ≡ Ok (step t left)
      scope : numbers left.scope ≡ in_scope (numbers v.scope) s t
      grows : Grows v.scope left.scope
      within : Grows left.kinds kinds
      count : length left.kinds ≡ length v.kinds + declarations t
      good : ScopeKinds kinds left.scope

    record RowWalked (b : Block) (walk : Block → Result Block Fault) (ts : List TypedStmt) : Type 0 where
      left : Variables
      is : walk b ≡ Ok (block (b.stmts ++ ts) left)
      grows : Grows b.variables.scope left.scope
      within : Grows left.kinds kinds
      count : length left.kinds ≡ length b.variables.kinds + all_declarations ts
      good : ScopeKinds kinds left.scope

    still-walked : (v : Variables) (s : Stmt) (t : TypedStmt) → Grows v.kinds kinds → ScopeKinds kinds v.scope → typed_stmt p own s v ≡ Ok (step t v)
        → numbers v.scope ≡ in_scope (numbers v.scope) s t → declarations t ≡ 0 → Walked v s t
    still-walked v s t g good is same none =
        record { left = v; is = is; scope = same; grows = grows-same v.scope; within = g; count = omega (arith, none); good = good }

    -- the variables at the end of a block
    abbrev ended : Variables → Variables → Variables
    ended v left = record { scope = v.scope; kinds = left.kinds }

    nested-walked : (v : Variables) (walk : Block → Result Block Fault) (ts : List TypedStmt) → (w : RowWalked (empty_block v) walk ts) → inner_block walk v ≡ Ok (block ts (ended v w.left))
    nested-walked v walk ts w =
        mapped-at (block_end (length v.scope)) (walk (empty_block v)) (block ts w.left) (block ts (ended v w.left)) w.is
        (ap (λ (l : Scope). block ts (record { scope = l; kinds = w.left.kinds })) (grows-take v.scope w.left.scope w.grows))

    declare-walked : (v : Variables) (seen : List ℕ) (at : Span) (form : TypeForm) (name : Ident) (value : Value) (kind : Kind) (x : TypedValue)
        → Grows v.kinds kinds → ScopeKinds kinds v.scope → IsKind (Whole p fs) form kind → lookup (bytes_eq name.text) (numbers v.scope) ≡ None
        → ValueResolves (Whole p fs) (numbers v.scope) value x → slice_get kinds (length v.kinds) ≡ Some kind → ValueTyped Here seen kind x
        → Walked v (Declare at form name value) (DeclareTyped at (length v.kinds) kind x)
    unfolding typed_stmt declarations
    declare-walked v seen at form name value kind x g good h none k there t = record {
      left = with_variable v name.text kind;
      is = after-at (declare p own at name value v) (kind_of p.names form) kind (Ok (declaration at name kind v x)) (kind-complete form kind h)
          (if-false (has v.scope name.text) (fault N2 name.span) (result_map (declaration at name kind v) (typed_value p own v.scope kind value)) (Ok (declaration at name kind v x))
          (free v.scope name.text none)
          (mapped-at (declaration at name kind v) (typed_value p own v.scope kind value) x (declaration at name kind v x) (value-complete seen v.scope good kind value x k t) refl));
      scope = numbers-added v.scope name.text (record { number = length v.kinds; kind = kind });
      grows = grows-more v.scope v.scope _ (grows-same v.scope);
      within = grows-next v.kinds kinds kind g there;
      count = omega (arith, length_push v.kinds kind);
      good = All-push (λ e. VariableKind kinds e.1) v.scope (name.text, record { number = length v.kinds; kind = kind }) good there;
    }

    if-walked : (v : Variables) {m n : _} (at : Span) (test : Expr) (first : Row_of-Stmt m) (second : Row_of-Stmt n) (x : TypedExpr) (ts us : List TypedStmt)
        → condition p own v.scope test ≡ Ok x → (a : RowWalked (empty_block v) (typed_row p own first) ts)
        → (b : RowWalked (empty_block (ended v a.left)) (typed_row p own second) us)
        → after (branch at (inner_block (typed_row p own first)) (inner_block (typed_row p own second)) v) (condition p own v.scope test)
        ≡ Ok (step (statements.If at x ts us) (ended v b.left))
    if-walked v at test first second x ts us h a b =
        let mid = ended v a.left in
        let result = step (statements.If at x ts us) (ended v b.left) in
        after-at (branch at (inner_block (typed_row p own first)) (inner_block (typed_row p own second)) v) (condition p own v.scope test) x (Ok result) h
        (after-at (choose at x (inner_block (typed_row p own second))) (inner_block (typed_row p own first) v) (block ts mid) (Ok result)
        (nested-walked v (typed_row p own first) ts a)
        (mapped-at (if_step at x (block ts mid)) (inner_block (typed_row p own second) mid) (block us (ended v b.left)) result
        (nested-walked mid (typed_row p own second) us b) refl))

    while-walked : (v : Variables) {n : _} (at : Span) (test : Expr) (body : Row_of-Stmt n) (x : TypedExpr) (ts : List TypedStmt)
        → condition p own v.scope test ≡ Ok x → (a : RowWalked (empty_block v) (typed_row p own body) ts)
        → after (loop at (inner_block (typed_row p own body)) v) (condition p own v.scope test) ≡ Ok (step (statements.While at x ts) (ended v a.left))
    while-walked v at test body x ts h a =
        after-at (loop at (inner_block (typed_row p own body)) v) (condition p own v.scope test) x (Ok (step (statements.While at x ts) (ended v a.left))) h
        (mapped-at (while_step at x) (inner_block (typed_row p own body) v) (block ts (ended v a.left)) (step (statements.While at x ts) (ended v a.left))
        (nested-walked v (typed_row p own body) ts a) refl)

    if-declares : (at : Span) (x : TypedExpr) (ts us : List TypedStmt) → declarations (statements.If at x ts us) ≡ all_declarations ts + all_declarations us
    unfolding declarations hidden-the_row-TypedStmt-0 shape-the_row-TypedStmt-0 denote.Hole.Carrier.hidden
    if-declares at x ts us = omega (arith, row-declarations ts, row-declarations us)

    while-declares : (at : Span) (x : TypedExpr) (ts : List TypedStmt) → declarations (statements.While at x ts) ≡ all_declarations ts
    unfolding declarations hidden-the_row-TypedStmt-0 shape-the_row-TypedStmt-0 denote.Hole.Carrier.hidden
    while-declares at x ts = row-declarations ts

    -- what is asked of a statement
    abbrev StmtGood : Variables → List ℕ → TypedStmt → Type 0
    StmtGood v seen t = StmtTyped Here seen (length v.kinds) t

    declare-parts : (v : Variables) (seen : List ℕ) (at : Span) (n : ℕ) (kind : Kind) (x : TypedValue) → StmtGood v seen (DeclareTyped at n kind x)
        → (n ≡ length v.kinds) × (slice_get kinds n ≡ Some kind) × ValueTyped Here seen kind x
    unfolding StmtTyped
    declare-parts v seen at n kind x t = t

    assign-walked : (v : Variables) (seen : List ℕ) (name : Ident) (value : Value) (n : ℕ) (x : TypedValue) → Grows v.kinds kinds → ScopeKinds kinds v.scope
        → IsVariable (numbers v.scope) name n → ValueResolves (Whole p fs) (numbers v.scope) value x → StmtGood v seen (AssignTyped name.span n x)
        → Walked v (Assign name value) (AssignTyped name.span n x)
    unfolding typed_stmt declarations StmtTyped
    assign-walked v seen name value n x g good h k t =
        still-walked v (Assign name value) (AssignTyped name.span n x) g good
        (mapped-at (still v) (assign p own v.scope name value) (AssignTyped name.span n x) (step (AssignTyped name.span n x) v)
        (assign-complete seen v.scope good name value n x h k t.1) refl) refl refl

    set-walked : (v : Variables) (seen : List ℕ) (at : Span) (left : Expr) (name : Ident) (e : Expr) (y : TypedExpr) (s f row : ℕ) (x : TypedExpr) → Grows v.kinds kinds
        → ScopeKinds kinds v.scope → ExprResolves (Whole p fs) (numbers v.scope) left y → IsMember (Whole p fs) s name f row → ExprResolves (Whole p fs) (numbers v.scope) e x
        → StmtGood v seen (SetTyped at y s f x) → Walked v (SetField at left name e) (SetTyped at y s f x)
    unfolding typed_stmt declarations StmtTyped
    set-walked v seen at left name e y s f row x g good h k l t =
        still-walked v (SetField at left name e) (SetTyped at y s f x) g good
        (mapped-at (still v) (set_field p own v.scope at left name e) (SetTyped at y s f x) (step (SetTyped at y s f x) v)
        (field-set seen v.scope good at left name e y s f row x h k l t.0 t.1 t.2) refl) refl refl

    write-walked : (v : Variables) (seen : List ℕ) (at : Span) (place e : Expr) (y x : TypedExpr) → Grows v.kinds kinds → ScopeKinds kinds v.scope
        → ExprResolves (Whole p fs) (numbers v.scope) place y → ExprResolves (Whole p fs) (numbers v.scope) e x → StmtGood v seen (WriteTyped at y x)
        → Walked v (Write at place e) (WriteTyped at y x)
    unfolding typed_stmt declarations StmtTyped
    write-walked v seen at place e y x g good h k t =
        still-walked v (Write at place e) (WriteTyped at y x) g good
        (mapped-at (still v) (write p own v.scope at place e) (WriteTyped at y x) (step (WriteTyped at y x) v) (write-complete seen v.scope good at place e y x h k t.0 t.1) refl) refl refl

    call-walked : (v : Variables) (seen : List ℕ) (name : Ident) (args : List Expr) (f : ℕ) (xs : List TypedExpr) → Grows v.kinds kinds → ScopeKinds kinds v.scope
        → IsFunction (Whole p fs) name f → ExprsResolve (Whole p fs) (numbers v.scope) args xs → StmtGood v seen (CallTyped name.span f xs)
        → Walked v (Call name args) (CallTyped name.span f xs)
    unfolding typed_stmt declarations StmtTyped
    call-walked v seen name args f xs g good h k t =
        still-walked v (Call name args) (CallTyped name.span f xs) g good
        (mapped-at (still v) (call p own v.scope name args) (CallTyped name.span f xs) (step (CallTyped name.span f xs) v)
        (called-complete seen v.scope good name args f xs h k t.0 t.1) refl) refl refl

    plain-walked : (v : Variables) → Grows v.kinds kinds → ScopeKinds kinds v.scope → (at : Span)
        → Walked v (Return at) (ReturnTyped at) × Walked v (Break at) (BreakTyped at) × Walked v (Continue at) (ContinueTyped at)
    unfolding typed_stmt declarations
    plain-walked v g good at = (
      still-walked v (Return at) (ReturnTyped at) g good refl refl refl,
      still-walked v (Break at) (BreakTyped at) g good refl refl refl,
      still-walked v (Continue at) (ContinueTyped at) g good refl refl refl,
    )

    if-parts : (v : Variables) (seen : List ℕ) (at : Span) (x : TypedExpr) (ts us : List TypedStmt) → StmtGood v seen (statements.If at x ts us)
        → ExprTyped Here seen x × (x.kind ≡ Some Int) × StmtsTyped Here seen (length v.kinds) ts × StmtsTyped Here seen (length v.kinds + all_declarations ts) us
    unfolding StmtTyped hidden-the_row-TypedStmt-0 shape-the_row-TypedStmt-0 denote.Hole.Carrier.hidden
    if-parts v seen at x ts us t = (
      t.0,
      t.1,
      row-untyped Here ts seen (length v.kinds) t.2,
      subst (λ (n : ℕ). StmtsTyped Here seen (length v.kinds + n) us) (row-declarations ts)
          (row-untyped Here us seen (length v.kinds + row_declarations (hidden-the_row-TypedStmt-0 ts)) t.3),
    )

    while-parts : (v : Variables) (seen : List ℕ) (at : Span) (x : TypedExpr) (ts : List TypedStmt) → StmtGood v seen (statements.While at x ts)
        → ExprTyped Here seen x × (x.kind ≡ Some Int) × StmtsTyped Here seen (length v.kinds) ts
    unfolding StmtTyped hidden-the_row-TypedStmt-0 shape-the_row-TypedStmt-0 denote.Hole.Carrier.hidden
    while-parts v seen at x ts t = (t.0, t.1, row-untyped Here ts seen (length v.kinds) t.2)

    stmts-parts : (seen : List ℕ) (n : ℕ) (t : TypedStmt) (ts : List TypedStmt) → StmtsTyped Here seen n (t ∷ ts)
        → StmtTyped Here seen n t × StmtsTyped Here (seen_after seen t) (n + declarations t) ts
    unfolding StmtsTyped
    stmts-parts seen n t ts h = h

    -- a statement, and those after it
    with-walked : (b : Block) (s : Stmt) (t : TypedStmt) (rest : Block → Result Block Fault) (ts : List TypedStmt) → (w : Walked b.variables s t)
        → RowWalked (block (b.stmts ++ t ∷ []) w.left) rest ts
        → RowWalked b (λ c. after rest (result_map (with_step c) (typed_stmt p own s c.variables))) (t ∷ ts)
    unfolding all_declarations
    with-walked b s t rest ts w k = record {
      left = k.left;
      is = after-at rest (result_map (with_step b) (typed_stmt p own s b.variables)) (block (b.stmts ++ t ∷ []) w.left) (Ok (block (b.stmts ++ t ∷ ts) k.left))
          (mapped-at (with_step b) (typed_stmt p own s b.variables) (step t w.left) (block (b.stmts ++ t ∷ []) w.left) w.is refl)
          (k.is ∙ ap (λ (l : List TypedStmt). Ok (block l k.left)) (append_assoc b.stmts (t ∷ []) ts));
      grows = grows-on b.variables.scope w.left.scope k.left.scope w.grows k.grows;
      within = k.within;
      count = omega (arith, w.count, k.count);
      good = k.good;
    }

    none-walked : (b : Block) → Grows b.variables.kinds kinds → ScopeKinds kinds b.variables.scope → RowWalked b (λ c. Ok c) []
    unfolding all_declarations
    none-walked b g good = record {
      left = b.variables;
      is = ap (λ (l : List TypedStmt). Ok (block l b.variables)) (sym (append-nil b.stmts));
      grows = grows-same b.variables.scope;
      within = g;
      count = omega arith;
      good = good;
    }

    mutual
      unfolding typed_stmt StmtResolves

      stmt-walked : (s : Stmt) (t : TypedStmt) (v : Variables) (seen : List ℕ) → Grows v.kinds kinds → ScopeKinds kinds v.scope
          → StmtResolves (Whole p fs) (numbers v.scope) s t → StmtGood v seen t → Walked v s t
      stmt-walked (Declare at form name value) t v seen g good h k =
          let d = declare-parts v seen at h.0 h.1 h.2 (subst (StmtGood v seen) h.6 k) in
          let there : slice_get kinds (length v.kinds) ≡ Some h.1 = ap (slice_get kinds) (sym d.0) ∙ d.1 in
          subst (Walked v (Declare at form name value)) (ap (λ (n : ℕ). DeclareTyped at n h.1 h.2) (sym d.0) ∙ sym h.6)
          (declare-walked v seen at form name value h.1 h.2 g good h.3 h.4 h.5 there d.2)
      stmt-walked (Assign name value) t v seen g good h k =
          subst (Walked v (Assign name value)) (sym h.4) (assign-walked v seen name value h.0 h.1 g good h.2 h.3 (subst (StmtGood v seen) h.4 k))
      stmt-walked (SetField at left name e) t v seen g good h k =
          subst (Walked v (SetField at left name e)) (sym h.8)
          (set-walked v seen at left name e h.0 h.1 h.2 h.3 h.4 g good h.5 h.6 h.7 (subst (StmtGood v seen) h.8 k))
      stmt-walked (Write at place e) t v seen g good h k =
          subst (Walked v (Write at place e)) (sym h.4) (write-walked v seen at place e h.0 h.1 g good h.2 h.3 (subst (StmtGood v seen) h.4 k))
      stmt-walked (Call name args) t v seen g good h k =
          subst (Walked v (Call name args)) (sym h.4) (call-walked v seen name args h.0 h.1 g good h.2 h.3 (subst (StmtGood v seen) h.4 k))
      stmt-walked (If' at test _ first _ second) t v seen g good h k =
          let d = if-parts v seen at h.0 h.1 h.2 (subst (StmtGood v seen) h.6 k) in
          let a = row-walked first h.1 (empty_block v) seen g good h.4 d.2 in
          let count : length v.kinds + all_declarations h.1 ≡ length a.left.kinds = sym a.count in
          let b = row-walked second h.2 (empty_block (ended v a.left)) seen a.within good h.5 (subst (λ (n : ℕ). StmtsTyped Here seen n h.2) count d.3) in
          let test_is = condition-complete p fs own kinds seen v.scope good test h.0 h.3 d.0 d.1 in
          subst (Walked v (If' at test _ first _ second)) (sym h.6) (record {
            left = ended v b.left;
            is = if-walked v at test first second h.0 h.1 h.2 test_is a b;
            scope = refl;
            grows = grows-same v.scope;
            within = b.within;
            count = omega (arith, a.count, b.count, if-declares at h.0 h.1 h.2);
            good = good;
          })
      stmt-walked (While' at test _ body) t v seen g good h k =
          let d = while-parts v seen at h.0 h.1 (subst (StmtGood v seen) h.4 k) in
          let a = row-walked body h.1 (empty_block v) seen g good h.3 d.2 in
          subst (Walked v (While' at test _ body)) (sym h.4) (record {
            left = ended v a.left;
            is = while-walked v at test body h.0 h.1 (condition-complete p fs own kinds seen v.scope good test h.0 h.2 d.0 d.1) a;
            scope = refl;
            grows = grows-same v.scope;
            within = a.within;
            count = omega (arith, a.count, while-declares at h.0 h.1);
            good = good;
          })
      stmt-walked (Return at) t v seen g good h k = subst (Walked v (Return at)) (sym h) (plain-walked v g good at).0
      stmt-walked (Break at) t v seen g good h k = subst (Walked v (Break at)) (sym h) (plain-walked v g good at).1
      stmt-walked (Continue at) t v seen g good h k = subst (Walked v (Continue at)) (sym h) (plain-walked v g good at).2

      row-walked : {n : _} → (row : Row_of-Stmt n) (ts : List TypedStmt) (b : Block) (seen : List ℕ) → Grows b.variables.kinds kinds → ScopeKinds kinds b.variables.scope
          → RowResolves (Whole p fs) (numbers b.variables.scope) row ts → StmtsTyped Here seen (length b.variables.kinds) ts → RowWalked b (typed_row p own row) ts
      row-walked end_of-Stmt [] b seen g good h k = none-walked b g good
      row-walked end_of-Stmt (t ∷ ts) b seen g good h k = absurd h
      row-walked (more_of-Stmt s rest) [] b seen g good h k = absurd h
      row-walked (more_of-Stmt s rest) (t ∷ ts) b seen g good h k =
          let d = stmts-parts seen (length b.variables.kinds) t ts k in
          let w = stmt-walked s t b.variables seen g good h.0 d.0 in
          with-walked b s t (typed_row p own rest) ts w
          (row-walked rest ts (block (b.stmts ++ t ∷ []) w.left) (seen_after seen t) w.within w.good
          (subst (λ (l : Environment). RowResolves (Whole p fs) l rest ts) (sym w.scope) h.1)
          (subst (λ (n : ℕ). StmtsTyped Here (seen_after seen t) n ts) (sym w.count) d.1))

    stmts-walked : (ss : List Stmt) (ts : List TypedStmt) (b : Block) (seen : List ℕ) → Grows b.variables.kinds kinds → ScopeKinds kinds b.variables.scope
        → StmtsResolve (Whole p fs) (numbers b.variables.scope) ss ts → StmtsTyped Here seen (length b.variables.kinds) ts → RowWalked b (typed_stmts p own ss) ts
    unfolding in_turn
    stmts-walked [] [] b seen g good h k = none-walked b g good
    stmts-walked [] (t ∷ ts) b seen g good h k = absurd h
    stmts-walked (s ∷ ss) [] b seen g good h k = absurd h
    stmts-walked (s ∷ ss) (t ∷ ts) b seen g good h k =
        let d = stmts-parts seen (length b.variables.kinds) t ts k in
        let w = stmt-walked s t b.variables seen g good h.0 d.0 in
        with-walked b s t (typed_stmts p own ss) ts w
        (stmts-walked ss ts (block (b.stmts ++ t ∷ []) w.left) (seen_after seen t) w.within w.good
        (subst (λ (l : Environment). StmtsResolve (Whole p fs) l ss ts) (sym w.scope) h.1)
        (subst (λ (n : ℕ). StmtsTyped Here (seen_after seen t) n ts) (sym w.count) d.1))

    -- a body is what the walk gives, and its variables have these kinds
    pub record BodyWalked (v : Variables) (ss : List Stmt) (ts : List TypedStmt) : Type 0 where
      pub left : Variables
      pub is : inner_block (typed_stmts p own ss) v ≡ Ok (block ts left)
      pub within : Grows left.kinds kinds
      pub count : length left.kinds ≡ length v.kinds + all_declarations ts

    pub body-walked : (ss : List Stmt) (ts : List TypedStmt) (v : Variables) (seen : List ℕ) → Grows v.kinds kinds → ScopeKinds kinds v.scope
        → StmtsResolve (Whole p fs) (numbers v.scope) ss ts → StmtsTyped Here seen (length v.kinds) ts → BodyWalked v ss ts
    body-walked ss ts v seen g good h k =
        let w = stmts-walked ss ts (empty_block v) seen g good h k in
        record { left = ended v w.left; is = nested-walked v (typed_stmts p own ss) ts w; within = w.within; count = w.count }
