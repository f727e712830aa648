-- In an expression that the walk gives each name has its number.
use Rattle.std.proofs.Common.{◌≡◌, ℕ, ◌==◌, Option, Some, None, Result, Ok, Err, List, [], ◌∷◌, ◌++◌, map, slice_get, refl, sym, subst, ap, ◌∙◌, append_assoc, append-nil, if◌then◌else◌}
use Rattle.std.specs.Prelude.{IfOk}
use Rattle.std.specs.Map.{keys_of, lookup}
use Rattle.std.specs.Option.{option_map}
use Rattle.std.specs.Str.{bytes_eq}
use Rattle.std.proofs.lemmas.Bool.Decides.{Decides-eqb}
use Rattle.ceal_base.specs.declared.fault.Fault.{Fault}
use Rattle.ceal_base.specs.declared.fault.FaultCode.TheVariants.{T1}
use Rattle.ceal_base.specs.declared.fault.Span.{Span}
use Rattle.ceal_base.specs.declared.kind.FieldKind.{FieldKind}
use Rattle.ceal_base.specs.declared.kind.FieldKind.TheVariants.{Plain, CellInt, CellPtr}
use Rattle.ceal_base.specs.declared.kind.Kind.{Kind}
use Rattle.ceal_base.specs.declared.kind.Kind.TheVariants.{Int, Ptr, ModInt, ModPtr}
use Rattle.ceal_base.specs.declared.operators.Binary.{Binary as BinaryOp}
use Rattle.ceal_base.specs.declared.operators.Binary.TheVariants.{Add, Sub, Mul, Div, Rem, Less, LessEq, More, MoreEq, Same, Differ, And, Or, Pick}
use Rattle.ceal_base.specs.declared.operators.Unary.{Unary as UnaryOp}
use Rattle.ceal_base.specs.declared.syntax.Expr.{Expr}
use Rattle.ceal_base.specs.declared.syntax.ExprForm.{ExprForm, Num, Null, Var, Own, Unary', Binary', Field', Address', Pick'}
use Rattle.ceal_base.specs.declared.syntax.ExprForm.TheBlock.{Row_of-Expr, end_of-Expr, more_of-Expr}
use Rattle.ceal_base.specs.declared.syntax.Ident.{Ident}
use Rattle.ceal_base.specs.declared.typed.Typed.{Typed}
use Rattle.ceal_base.specs.declared.typed.TypedExpr.{TypedExpr}
use Rattle.ceal_base.specs.declared.typed.TypedForm.TheViews as typed
use Rattle.ceal_base.specs.declared.typed.TypedFunction.{TypedFunction}
use Rattle.ceal_types.specs.Checked.{struct_info, program_of}
use Rattle.ceal_types.specs.Expressions.{Scope, Fields, typed_form, typed_operand, typed_expr, typed_exprs, with_expr}
use Rattle.ceal_types.specs.Expressions.{condition, variable_at, own_at, int_asked, unary_at, unary_of, binary_at}
use Rattle.ceal_types.specs.Expressions.{binary_of, comparison, int_operation, expression, field_or_row, no_pick}
use Rattle.ceal_types.specs.Expressions.{element_of, element_of_row, pick_of_kind, pick_of, pick_at, field_named}
use Rattle.ceal_types.specs.Expressions.{field_of_struct, member_of, member, value_of_field, field_of, field_at}
use Rattle.ceal_types.specs.Expressions.{place_of_field, address_of, address_at, no_address}
use Rattle.ceal_types.specs.Kinds.{suits, comparable}
use Rattle.ceal_types.specs.Resolves.{IsSign, IsForm, IsMember, FormResolves, OperandResolves, ExprResolves, ExprsResolve, field_names, member_number}
use Rattle.ceal_types.specs.Tables.{Name, value_at}
use Rattle.ceal_types.specs.Walk.{fault, after, both, in_turn, at_end}
use Rattle.ceal_types.specs.declared.program.Field.{Field}
use Rattle.ceal_types.specs.declared.program.Member.{Member}
use Rattle.ceal_types.specs.declared.program.Program.{Program}
use Rattle.ceal_types.specs.declared.program.Variable.{Variable}
use Rattle.ceal_types.proofs.Typing.ExpressionTyped.{MemberGood, member-good}
use Rattle.ceal_types.proofs.Walks.WalkKeeps.{after-keeps, mapped-keeps, both-keeps, if-keeps, weaken}
use Rattle.ceal_types.proofs.Resolution.NumbersOfNames.{numbers, number_of, lookup-numbers, first, member-place, names-there, both-hold}

module _ (p : Program) (fs : List TypedFunction) where
  abbrev pub Whole : Typed
  Whole = program_of p fs

  -- ---- fields
  abbrev Named : Ident → Member → Type 0
  Named name m = member_number (field_names (slice_get (map struct_info p.structs) m.shape)) name.text ≡ Some m.field

  field-named : (name : Ident) (s : ℕ) (fields : Fields) → value_at p.structs s ≡ Some fields → (o : Option (ℕ × Field))
      → option_map first o ≡ member_number (keys_of fields) name.text → IfOk (field_named name s o) (Named name)
  field-named name s fields there None h = tt
  field-named name s fields there (Some f) h = ap (λ (l : List Name). member_number l name.text) (names-there p.structs s fields there) ∙ sym h

  struct-named : (name : Ident) (s : ℕ) (o : Option Fields) → value_at p.structs s ≡ o → IfOk (field_of_struct name s o) (Named name)
  struct-named name s None there = tt
  struct-named name s (Some fields) there = field-named name s fields there (field_or_row fields name.text) (member-place fields name.text)

  kind-named : (name : Ident) (at : Span) (kind : Option Kind) → IfOk (member_of p.structs at name kind) (Named name)
  kind-named name at None = tt
  kind-named name at (Some Int) = tt
  kind-named name at (Some (Ptr s)) = struct-named name s (value_at p.structs s) refl
  kind-named name at (Some ModInt) = tt
  kind-named name at (Some (ModPtr s)) = tt

  -- the member that is found is the one of this name
  abbrev pub Found : Ident → Member → Type 0
  Found name m = IsMember Whole m.shape name m.field m.row

  pub member-named : (name : Ident) (e : TypedExpr) → IfOk (member p.structs name e) (Found name)
  unfolding member
  member-named name e =
      weaken (λ m. Named name m × MemberGood p.structs e.kind m) (Found name) (member p.structs name e) (λ m h. (h.0, h.1.row))
      (both-hold (member p.structs name e) (Named name) (MemberGood p.structs e.kind) (kind-named name e.span e.kind) (member-good p.structs name e))

  -- ---- operators
  unary-form : (at : Span) (op : UnaryOp) (y : TypedExpr) → IfOk (unary_at at op y) (IsForm at (typed.Unary op y))
  unary-form at op y = if-keeps (IsForm at (typed.Unary op y)) (suits Int y.kind) (Ok (unary_of at op y)) (fault T1 y.span) (λ b. (refl, refl)) (λ b. tt)

  abbrev Between : Span → BinaryOp → Span → TypedExpr → TypedExpr → TypedExpr → Type 0
  Between at op sign y z x = IsForm at (typed.Binary op sign y z) x

  compared-form : (at : Span) (op : BinaryOp) (sign : Span) (y z : TypedExpr) → IfOk (comparison at op sign y z) (Between at op sign y z)
  compared-form at op sign y z =
      if-keeps (Between at op sign y z) (comparable y.kind z.kind) (Ok (binary_of at op sign y z)) (fault T1 sign) (λ b. (refl, refl)) (λ b. tt)

  computed-form : (at : Span) (op : BinaryOp) (sign : Span) (y z : TypedExpr) → IfOk (int_operation at op sign y z) (Between at op sign y z)
  computed-form at op sign y z =
      if-keeps (Between at op sign y z) (suits Int y.kind) (if suits Int z.kind then Ok (binary_of at op sign y z) else fault T1 z.span) (fault T1 y.span)
      (λ b. if-keeps (Between at op sign y z) (suits Int z.kind) (Ok (binary_of at op sign y z)) (fault T1 z.span) (λ c. (refl, refl)) (λ c. tt)) (λ b. tt)

  with-sign : (at : Span) (op : BinaryOp) (sign : Span) (y z : TypedExpr) → IsSign op → (r : Result TypedExpr Fault) → IfOk r (Between at op sign y z)
      → IfOk r (λ x. IsSign op × Between at op sign y z x)
  with-sign at op sign y z s r h = weaken (Between at op sign y z) (λ x. IsSign op × Between at op sign y z x) r (λ x k. (s, k)) h

  binary-form : (at : Span) (op : BinaryOp) (sign : Span) (y z : TypedExpr) → IfOk (binary_at at op sign y z) (λ x. IsSign op × Between at op sign y z x)
  binary-form at Same sign y z = with-sign at Same sign y z tt (comparison at Same sign y z) (compared-form at Same sign y z)
  binary-form at Differ sign y z = with-sign at Differ sign y z tt (comparison at Differ sign y z) (compared-form at Differ sign y z)
  binary-form at Add sign y z = with-sign at Add sign y z tt (int_operation at Add sign y z) (computed-form at Add sign y z)
  binary-form at Sub sign y z = with-sign at Sub sign y z tt (int_operation at Sub sign y z) (computed-form at Sub sign y z)
  binary-form at Mul sign y z = with-sign at Mul sign y z tt (int_operation at Mul sign y z) (computed-form at Mul sign y z)
  binary-form at Div sign y z = with-sign at Div sign y z tt (int_operation at Div sign y z) (computed-form at Div sign y z)
  binary-form at Rem sign y z = with-sign at Rem sign y z tt (int_operation at Rem sign y z) (computed-form at Rem sign y z)
  binary-form at Less sign y z = with-sign at Less sign y z tt (int_operation at Less sign y z) (computed-form at Less sign y z)
  binary-form at LessEq sign y z = with-sign at LessEq sign y z tt (int_operation at LessEq sign y z) (computed-form at LessEq sign y z)
  binary-form at More sign y z = with-sign at More sign y z tt (int_operation at More sign y z) (computed-form at More sign y z)
  binary-form at MoreEq sign y z = with-sign at MoreEq sign y z tt (int_operation at MoreEq sign y z) (computed-form at MoreEq sign y z)
  binary-form at And sign y z = with-sign at And sign y z tt (int_operation at And sign y z) (computed-form at And sign y z)
  binary-form at Or sign y z = with-sign at Or sign y z tt (int_operation at Or sign y z) (computed-form at Or sign y z)
  binary-form at (Pick row) sign y z = tt

  -- ---- members
  value-form : (at : Span) (name : Ident) (y : TypedExpr) (s f : ℕ) (kind : FieldKind) → IfOk (value_of_field at name y s f kind) (IsForm at (typed.Field y s f))
  value-form at name y s f (Plain kind) = (refl, refl)
  value-form at name y s f CellInt = tt
  value-form at name y s f (CellPtr t) = tt

  place-form : (at : Span) (name : Ident) (y : TypedExpr) (s f : ℕ) (kind : FieldKind) → IfOk (place_of_field at name y s f kind) (IsForm at (typed.Address y s f))
  place-form at name y s f (Plain kind) = tt
  place-form at name y s f CellInt = (refl, refl)
  place-form at name y s f (CellPtr t) = (refl, refl)

  -- the address of a row, and an element of it
  record Element (at : Span) (name : Ident) (y z : TypedExpr) (m : Member) (x : TypedExpr) : Type 0 where
    place : TypedExpr
    address : IsForm at (typed.Address y m.shape m.field) place
    form : IsForm at (typed.Binary (Pick m.row) name.span place z) x

  element-form : (at : Span) (name : Ident) (kind : Kind) (y z : TypedExpr) (m : Member) → IfOk (element_of_row at name kind y z m) (Element at name y z m)
  element-form at name kind y z m =
      let place = expression at (Some kind) (typed.Address y m.shape m.field) in
      if-keeps (Element at name y z m) (m.row == 0) (fault T1 name.span) (element_of at name kind place z m.row) (λ b. tt)
      (λ b. if-keeps (Element at name y z m) (suits Int z.kind) (Ok (expression at (Some kind) (typed.Binary (Pick m.row) name.span place z))) (fault T1 z.span)
      (λ c. record { place = place; address = (refl, refl); form = (refl, refl) }) (λ c. tt))

  pick-form : (at : Span) (name : Ident) (y z : TypedExpr) (m : Member) (kind : FieldKind) → IfOk (pick_of_kind at name y z m kind) (Element at name y z m)
  pick-form at name y z m (Plain kind) = tt
  pick-form at name y z m CellInt = element-form at name ModInt y z m
  pick-form at name y z m (CellPtr t) = element-form at name (ModPtr t) y z m

  none-resolved : (Q : TypedExpr → Type 0) (r : Result TypedExpr Fault) → IfOk (after no_address r) Q
  none-resolved Q (Ok e) = tt
  none-resolved Q (Err f) = tt

  none-picked : (Q : TypedExpr → Type 0) (r s : Result TypedExpr Fault) → IfOk (both no_pick r s) Q
  none-picked Q (Ok e) (Ok i) = tt
  none-picked Q (Ok e) (Err f) = tt
  none-picked Q (Err f) s = tt

  module _ (own : Option ℕ) (scope : Scope) where
    variable-resolved : (at : Span) (name : Ident) (o : Option Variable) → lookup (bytes_eq name.text) scope ≡ o
        → IfOk (variable_at at name o) (FormResolves Whole (numbers scope) at (Var name))
    unfolding FormResolves
    variable-resolved at name None is = tt
    variable-resolved at name (Some v) is = (v.number, lookup-numbers (bytes_eq name.text) scope ∙ ap (option_map number_of) is, (refl, refl))

    own-resolved : (at : Span) (o : Option ℕ) → IfOk (own_at at o) (FormResolves Whole (numbers scope) at Own)
    unfolding FormResolves
    own-resolved at None = tt
    own-resolved at (Some s) = (refl, refl)

    mutual
      unfolding typed_form FormResolves field_at address_at pick_at

      form-resolved : (at : Span) (form : ExprForm) → IfOk (typed_form p own scope at form) (FormResolves Whole (numbers scope) at form)
      form-resolved at (Num n) = (refl, refl)
      form-resolved at Null = (refl, refl)
      form-resolved at (Var name) = variable-resolved at name (lookup (bytes_eq name.text) scope) refl
      form-resolved at Own = own-resolved at own
      form-resolved at (Unary' op _ a) =
          after-keeps (OperandResolves Whole (numbers scope) a) (FormResolves Whole (numbers scope) at (Unary' op _ a)) (unary_at at op) (typed_operand p own scope a)
          (operand-resolved a)
          (λ y h. weaken (IsForm at (typed.Unary op y)) (FormResolves Whole (numbers scope) at (Unary' op _ a)) (unary_at at op y) (λ x k. (y, h, k)) (unary-form at op y))
      form-resolved at (Binary' op sign _ a _ b) =
          both-keeps (OperandResolves Whole (numbers scope) a) (OperandResolves Whole (numbers scope) b) (FormResolves Whole (numbers scope) at (Binary' op sign _ a _ b))
          (binary_at at op sign) (typed_operand p own scope a) (typed_operand p own scope b) (operand-resolved a) (operand-resolved b)
          (λ y z h k. weaken (λ x. IsSign op × Between at op sign y z x) (FormResolves Whole (numbers scope) at (Binary' op sign _ a _ b)) (binary_at at op sign y z)
          (λ x g. (y, z, g.0, h, k, g.1)) (binary-form at op sign y z))
      form-resolved at (Field' _ a name) =
          after-keeps (OperandResolves Whole (numbers scope) a) (FormResolves Whole (numbers scope) at (Field' _ a name)) (field_at p.structs at name) (typed_operand p own scope a)
          (operand-resolved a)
          (λ y h. after-keeps (Found name) (FormResolves Whole (numbers scope) at (Field' _ a name)) (field_of at name y) (member p.structs name y) (member-named name y)
          (λ m k. weaken (IsForm at (typed.Field y m.shape m.field)) (FormResolves Whole (numbers scope) at (Field' _ a name)) (value_of_field at name y m.shape m.field m.kind)
          (λ x g. (y, m.shape, m.field, m.row, h, k, g)) (value-form at name y m.shape m.field m.kind)))
      form-resolved at (Address' _ (more_of-Expr span (Field' _ a name) rest)) =
          let R = FormResolves Whole (numbers scope) at (Address' _ (more_of-Expr span (Field' _ a name) rest)) in
          after-keeps (OperandResolves Whole (numbers scope) a) R (address_at p.structs at name) (typed_operand p own scope a)
          (operand-resolved a)
          (λ y h. after-keeps (Found name) R (address_of at name y) (member p.structs name y) (member-named name y)
          (λ m k. if-keeps R (m.row == 0) (place_of_field at name y m.shape m.field m.kind) (fault T1 name.span)
          (λ b. weaken (IsForm at (typed.Address y m.shape m.field)) R (place_of_field at name y m.shape m.field m.kind)
          (λ x g. (y, m.shape, m.field, h, subst (λ (n : ℕ). IsMember Whole m.shape name m.field n) ((Decides-eqb m.row 0).0 b) k, g)) (place-form at name y m.shape m.field m.kind))
          (λ b. tt)))
      form-resolved at (Address' _ a) = none-resolved (FormResolves Whole (numbers scope) at (Address' _ a)) (typed_operand p own scope a)
      form-resolved at (Pick' _ (more_of-Expr span (Field' _ a name) rest) _ i) =
          let R = FormResolves Whole (numbers scope) at (Pick' _ (more_of-Expr span (Field' _ a name) rest) _ i) in
          both-keeps (OperandResolves Whole (numbers scope) a) (OperandResolves Whole (numbers scope) i) R (pick_at p.structs at name)
          (typed_operand p own scope a) (typed_operand p own scope i) (operand-resolved a) (operand-resolved i)
          (λ y z h l. after-keeps (Found name) R (pick_of at name y z) (member p.structs name y) (member-named name y)
          (λ m k. weaken (Element at name y z m) R (pick_of_kind at name y z m m.kind)
          (λ x g. (y, z, g.place, m.shape, m.field, m.row, h, l, k, g.address, g.form)) (pick-form at name y z m m.kind)))
      form-resolved at (Pick' _ a _ i) = none-picked (FormResolves Whole (numbers scope) at (Pick' _ a _ i)) (typed_operand p own scope a) (typed_operand p own scope i)

      operand-resolved : {n : _} → (a : Row_of-Expr n) → IfOk (typed_operand p own scope a) (λ x. OperandResolves Whole (numbers scope) a x)
      operand-resolved end_of-Expr = (refl, refl)
      operand-resolved (more_of-Expr span form rest) = form-resolved span form

    pub expr-resolved : (e : Expr) → IfOk (typed_expr p own scope e) (ExprResolves Whole (numbers scope) e)
    expr-resolved e = form-resolved e.span e.form

    pub condition-resolved : (e : Expr) → IfOk (condition p own scope e) (ExprResolves Whole (numbers scope) e)
    condition-resolved e =
        after-keeps (ExprResolves Whole (numbers scope) e) (ExprResolves Whole (numbers scope) e) int_asked (typed_expr p own scope e) (expr-resolved e)
        (λ x h. if-keeps (ExprResolves Whole (numbers scope) e) (suits Int x.kind) (Ok x) (fault T1 x.span) (λ b. h) (λ b. tt))

    -- the expressions that a walk adds
    record Added (es : List Expr) (done xs : List TypedExpr) : Type 0 where
      more : List TypedExpr
      is : xs ≡ done ++ more
      resolved : ExprsResolve Whole (numbers scope) es more

    exprs-added : (es : List Expr) (done : List TypedExpr) → IfOk (in_turn (with_expr p own scope) es done) (Added es done)
    unfolding in_turn
    exprs-added [] done = record { more = []; is = sym (append-nil done); resolved = tt }
    exprs-added (e ∷ es) done =
        after-keeps (λ xs. (x : TypedExpr) × (xs ≡ done ++ x ∷ []) × ExprResolves Whole (numbers scope) e x) (Added (e ∷ es) done) (in_turn (with_expr p own scope) es)
        (with_expr p own scope e done)
        (mapped-keeps (ExprResolves Whole (numbers scope) e) (λ xs. (x : TypedExpr) × (xs ≡ done ++ x ∷ []) × ExprResolves Whole (numbers scope) e x) (at_end done)
        (typed_expr p own scope e) (expr-resolved e) (λ x h. (x, refl, h)))
        (λ xs g. weaken (Added es xs) (Added (e ∷ es) done) (in_turn (with_expr p own scope) es xs)
        (λ ys k. record {
          more = g.0 ∷ k.more;
          is = k.is ∙ ap (λ (l : List TypedExpr). l ++ k.more) g.1 ∙ append_assoc done (g.0 ∷ []) k.more;
          resolved = (g.2, k.resolved);
        })
        (exprs-added es xs))

    pub exprs-resolved : (es : List Expr) → IfOk (typed_exprs p own scope es) (ExprsResolve Whole (numbers scope) es)
    exprs-resolved es =
        weaken (Added es []) (ExprsResolve Whole (numbers scope) es) (typed_exprs p own scope es)
        (λ xs k. subst (λ (l : List TypedExpr). ExprsResolve Whole (numbers scope) es l) (sym k.is) k.resolved)
        (exprs-added es [])
