-- An expression that the walk gives is well typed.
use Rattle.std.proofs.Common.{◌≡◌, ℕ, ◌<◌, ◌==◌, arith, true, false, Option, Some, None, Result, Ok, List, [], All, Contains, map, slice_get, refl, if◌then◌else◌}
use Rattle.std.specs.Prelude.{IfOk, IfSome}
use Rattle.std.specs.Map.{lookup}
use Rattle.std.specs.Str.{bytes_eq}
use Rattle.std.proofs.lemmas.Map.Entries.{All-lookup}
use Rattle.ceal_base.specs.Shapes.{row_at}
use Rattle.ceal_base.specs.WellTyped.{Context, FormTyped, ExprTyped, field_kind}
use Rattle.ceal_base.specs.declared.fault.Fault.{Fault}
use Rattle.ceal_base.specs.declared.fault.FaultCode.TheVariants.{T1}
use Rattle.ceal_base.specs.declared.fault.Span.{Span}
use Rattle.ceal_base.specs.declared.kind.FieldKind.{FieldKind}
use Rattle.ceal_base.specs.declared.kind.FieldKind.TheVariants.{Plain, CellInt, CellPtr}
use Rattle.ceal_base.specs.declared.kind.Kind.{Kind}
use Rattle.ceal_base.specs.declared.kind.Kind.TheVariants.{Int, Ptr, ModInt, ModPtr}
use Rattle.ceal_base.specs.declared.operators.Binary.{Binary as BinaryOp}
use Rattle.ceal_base.specs.declared.operators.Binary.TheVariants.{Add, Sub, Mul, Div, Rem, Less, LessEq, More, MoreEq, Same, Differ, And, Or, Pick}
use Rattle.ceal_base.specs.declared.operators.Unary.{Unary as UnaryOp}
use Rattle.ceal_base.specs.declared.syntax.Expr.{Expr}
use Rattle.ceal_base.specs.declared.syntax.ExprForm.{ExprForm, Num, Null, Var, Own, Unary', Binary', Field', Address', Pick'}
use Rattle.ceal_base.specs.declared.syntax.ExprForm.TheBlock.{Row_of-Expr, end_of-Expr, more_of-Expr}
use Rattle.ceal_base.specs.declared.syntax.Ident.{Ident}
use Rattle.ceal_base.specs.declared.typed.TypedExpr.{TypedExpr}
use Rattle.ceal_base.specs.declared.typed.TypedForm.TheViews as typed
use Rattle.ceal_base.specs.declared.typed.TypedForm.TheBlock.{hidden-the_row-TypedExpr-0, shape-the_row-TypedExpr-0}
use Rattle.ceal_base.specs.declared.typed.TypedFunction.{TypedFunction}
use Rattle.ceal_types.specs.Checked.{struct_info}
use Rattle.ceal_types.specs.Expressions.{Scope, Fields, typed_form, typed_operand, typed_expr, typed_exprs, with_expr}
use Rattle.ceal_types.specs.Expressions.{condition, variable_at, own_at, int_asked, unary_at, unary_of, binary_at}
use Rattle.ceal_types.specs.Expressions.{binary_of, comparison, int_operation, expression, found_or, field_or_row}
use Rattle.ceal_types.specs.Expressions.{no_pick, element_of, element_of_row, pick_of_kind, pick_of, pick_at}
use Rattle.ceal_types.specs.Expressions.{field_named, field_of_struct, member_of, member, value_of_field, field_of}
use Rattle.ceal_types.specs.Expressions.{field_at, place_of_field, address_of, address_at, no_address}
use Rattle.ceal_types.specs.Kinds.{suits, comparable}
use Rattle.ceal_types.specs.Tables.{Name, find, value_at, element_name}
use Rattle.ceal_types.specs.Walk.{fault, after, both, at_end}
use Rattle.ceal_types.specs.declared.program.Field.{Field}
use Rattle.ceal_types.specs.declared.program.Member.{Member}
use Rattle.ceal_types.specs.declared.program.Program.{Program}
use Rattle.ceal_types.specs.declared.program.Variable.{Variable}
use Rattle.ceal_types.proofs.Walks.WalkKeeps.{after-keeps, mapped-keeps, both-keeps, if-keeps, turn-keeps}
use Rattle.ceal_types.proofs.Typing.KindTests.{int-suited, compared-kinds}
use Rattle.ceal_types.proofs.NameNumbers.FoundPlace.{find-place, field-place, row-place}
use Rattle.std.proofs.lemmas.List.Elements.{All-push}

abbrev pub VariableGood : List ℕ → List Kind → Variable → Type 0
VariableGood seen kinds x = Contains seen x.number × (slice_get kinds x.number ≡ Some x.kind)

-- the variables in scope are those that are seen, with their types
abbrev pub ScopeGood : Scope → List ℕ → List Kind → Type 0
ScopeGood scope seen kinds = All (λ e. VariableGood seen kinds e.1) scope

abbrev pub around : Program → List TypedFunction → Option ℕ → List Kind → Context
around p fs own kinds = record { structs = map struct_info p.structs; functions = fs; own = own; kinds = kinds }

-- a member that was found
pub record MemberGood (structs : List (Name × Fields)) (kind : Option Kind) (m : Member) : Type 0 where
  pub left : kind ≡ Some (Ptr m.shape)
  pub there : field_kind (map struct_info structs) m.shape m.field ≡ Some m.kind
  pub row : row_at (map struct_info structs) m.shape m.field ≡ Some m.row

module _ (structs : List (Name × Fields)) (name : Ident) where
  named-good : (s : ℕ) (fields : Fields) → value_at structs s ≡ Some fields → (f : Option (ℕ × Field))
      → IfSome f (λ g. value_at fields g.0 ≡ Some g.1) → IfOk (field_named name s f) (MemberGood structs (Some (Ptr s)))
  named-good s fields there None h = tt
  named-good s fields there (Some g) h =
      record { left = refl; there = field-place structs s fields g.0 g.1 there h; row = row-place structs s fields g.0 g.1 there h }

  either-place : (fields : Fields) (f g : Option (ℕ × Field)) → IfSome f (λ h. value_at fields h.0 ≡ Some h.1) → IfSome g (λ h. value_at fields h.0 ≡ Some h.1)
      → IfSome (found_or f g) (λ h. value_at fields h.0 ≡ Some h.1)
  either-place fields None g h k = k
  either-place fields (Some f) g h k = h

  struct-good : (s : ℕ) (o : Option Fields) → value_at structs s ≡ o → IfOk (field_of_struct name s o) (MemberGood structs (Some (Ptr s)))
  struct-good s None there = tt
  struct-good s (Some fields) there =
      named-good s fields there (field_or_row fields name.text)
      (either-place fields (find fields name.text) (find fields (element_name name.text 0)) (find-place fields name.text) (find-place fields (element_name name.text 0)))

  kind-good : (at : Span) (kind : Option Kind) → IfOk (member_of structs at name kind) (MemberGood structs kind)
  kind-good at None = tt
  kind-good at (Some Int) = tt
  kind-good at (Some (Ptr s)) = struct-good s (value_at structs s) refl
  kind-good at (Some ModInt) = tt
  kind-good at (Some (ModPtr s)) = tt

  pub member-good : (e : TypedExpr) → IfOk (member structs name e) (MemberGood structs e.kind)
  unfolding member
  member-good e = kind-good e.span e.kind

module _ (p : Program) (fs : List TypedFunction) (own : Option ℕ) (kinds : List Kind) (seen : List ℕ) where
  -- it is typed in this place
  abbrev pub Good : TypedExpr → Type 0
  Good e = ExprTyped (around p fs own kinds) seen e

  variable-typed : (at : Span) (name : Ident) (o : Option Variable) → IfSome o (VariableGood seen kinds) → IfOk (variable_at at name o) Good
  unfolding FormTyped
  variable-typed at name None h = tt
  variable-typed at name (Some v) h = (h.0, refl, h.1)

  own-typed : (at : Span) (o : Option ℕ) → own ≡ o → IfOk (own_at at o) Good
  unfolding FormTyped
  own-typed at None h = tt
  own-typed at (Some s) h = rw h (refl, refl)

  unary-typed : (at : Span) (op : UnaryOp) (a : TypedExpr) → Good a → IfOk (unary_at at op a) Good
  unfolding FormTyped hidden-the_row-TypedExpr-0 shape-the_row-TypedExpr-0 denote.Hole.Carrier.hidden
  unary-typed at op a h = if-keeps Good (suits Int a.kind) (Ok (unary_of at op a)) (fault T1 a.span) (λ b. (h, int-suited a.kind b, refl)) (λ b. tt)

  compared-typed : (at : Span) (op : BinaryOp) (sign : Span) (a b : TypedExpr) → Good a → Good b
      → (comparable a.kind b.kind ≡ true → Good (binary_of at op sign a b)) → IfOk (comparison at op sign a b) Good
  compared-typed at op sign a b h k both-good =
      if-keeps Good (comparable a.kind b.kind) (Ok (binary_of at op sign a b)) (fault T1 sign) both-good (λ n. tt)

  computed-typed : (at : Span) (op : BinaryOp) (sign : Span) (a b : TypedExpr)
      → (a.kind ≡ Some Int → b.kind ≡ Some Int → Good (binary_of at op sign a b)) → IfOk (int_operation at op sign a b) Good
  computed-typed at op sign a b both-good =
      if-keeps Good (suits Int a.kind) (if suits Int b.kind then Ok (binary_of at op sign a b) else fault T1 b.span) (fault T1 a.span)
      (λ x. if-keeps Good (suits Int b.kind) (Ok (binary_of at op sign a b)) (fault T1 b.span) (λ y. both-good (int-suited a.kind x) (int-suited b.kind y)) (λ n. tt))
      (λ n. tt)

  binary-typed : (at : Span) (op : BinaryOp) (sign : Span) (a b : TypedExpr) → Good a → Good b → IfOk (binary_at at op sign a b) Good
  unfolding FormTyped hidden-the_row-TypedExpr-0 shape-the_row-TypedExpr-0 denote.Hole.Carrier.hidden
  binary-typed at Same sign a b h k = compared-typed at Same sign a b h k (λ c. (h, k, compared-kinds a.kind b.kind c, tt, refl))
  binary-typed at Differ sign a b h k = compared-typed at Differ sign a b h k (λ c. (h, k, compared-kinds a.kind b.kind c, tt, refl))
  binary-typed at Add sign a b h k = computed-typed at Add sign a b (λ x y. (h, k, (x, y), tt, refl))
  binary-typed at Sub sign a b h k = computed-typed at Sub sign a b (λ x y. (h, k, (x, y), tt, refl))
  binary-typed at Mul sign a b h k = computed-typed at Mul sign a b (λ x y. (h, k, (x, y), tt, refl))
  binary-typed at Div sign a b h k = computed-typed at Div sign a b (λ x y. (h, k, (x, y), tt, refl))
  binary-typed at Rem sign a b h k = computed-typed at Rem sign a b (λ x y. (h, k, (x, y), tt, refl))
  binary-typed at Less sign a b h k = computed-typed at Less sign a b (λ x y. (h, k, (x, y), tt, refl))
  binary-typed at LessEq sign a b h k = computed-typed at LessEq sign a b (λ x y. (h, k, (x, y), tt, refl))
  binary-typed at More sign a b h k = computed-typed at More sign a b (λ x y. (h, k, (x, y), tt, refl))
  binary-typed at MoreEq sign a b h k = computed-typed at MoreEq sign a b (λ x y. (h, k, (x, y), tt, refl))
  binary-typed at And sign a b h k = computed-typed at And sign a b (λ x y. (h, k, (x, y), tt, refl))
  binary-typed at Or sign a b h k = computed-typed at Or sign a b (λ x y. (h, k, (x, y), tt, refl))
  binary-typed at (Pick row) sign a b h k = tt

  value-typed : (at : Span) (name : Ident) (e : TypedExpr) (s field : ℕ) (kind : FieldKind) → Good e → e.kind ≡ Some (Ptr s)
      → field_kind (map struct_info p.structs) s field ≡ Some kind → IfOk (value_of_field at name e s field kind) Good
  unfolding FormTyped hidden-the_row-TypedExpr-0 shape-the_row-TypedExpr-0 denote.Hole.Carrier.hidden
  value-typed at name e s field (Plain kind) h left there = (h, left, refl, rw there refl)
  value-typed at name e s field CellInt h left there = tt
  value-typed at name e s field (CellPtr t) h left there = tt

  field-typed : (at : Span) (name : Ident) (e : TypedExpr) → Good e → IfOk (field_at p.structs at name e) Good
  unfolding field_at
  field-typed at name e h =
      after-keeps (MemberGood p.structs e.kind) Good (field_of at name e) (member p.structs name e) (member-good p.structs name e)
      (λ m k. value-typed at name e m.shape m.field m.kind h k.left k.there)

  place-typed : (at : Span) (name : Ident) (e : TypedExpr) (s field : ℕ) (kind : FieldKind) → Good e → e.kind ≡ Some (Ptr s)
      → field_kind (map struct_info p.structs) s field ≡ Some kind → IfOk (place_of_field at name e s field kind) Good
  unfolding FormTyped hidden-the_row-TypedExpr-0 shape-the_row-TypedExpr-0 denote.Hole.Carrier.hidden
  place-typed at name e s field (Plain kind) h left there = tt
  place-typed at name e s field CellInt h left there = (h, left, refl, rw there refl)
  place-typed at name e s field (CellPtr t) h left there = (h, left, refl, rw there refl)

  address-typed : (at : Span) (name : Ident) (e : TypedExpr) → Good e → IfOk (address_at p.structs at name e) Good
  unfolding address_at
  address-typed at name e h =
      after-keeps (MemberGood p.structs e.kind) Good (address_of at name e) (member p.structs name e) (member-good p.structs name e)
      (λ m k. if-keeps Good (m.row == 0) (place_of_field at name e m.shape m.field m.kind) (fault T1 name.span)
      (λ b. place-typed at name e m.shape m.field m.kind h k.left k.there) (λ b. tt))

  element-typed : (at : Span) (name : Ident) (kind : Kind) (e i : TypedExpr) (m : Member) → Good (expression at (Some kind) (typed.Address e m.shape m.field)) → Good i
      → row_at (map struct_info p.structs) m.shape m.field ≡ Some m.row → IfOk (element_of_row at name kind e i m) Good
  unfolding FormTyped hidden-the_row-TypedExpr-0 shape-the_row-TypedExpr-0 denote.Hole.Carrier.hidden
  element-typed at name kind e i m h k row =
      if-keeps Good (m.row == 0) (fault T1 name.span) (element_of at name kind (expression at (Some kind) (typed.Address e m.shape m.field)) i m.row) (λ b. tt)
      (λ some. if-keeps Good (suits Int i.kind) (Ok (expression at (Some kind) (typed.Binary (Pick m.row) name.span (expression at (Some kind) (typed.Address e m.shape m.field)) i))) (fault T1 i.span)
      (λ b. (h, k, (refl, int-suited i.kind b), (positive m.row some, row), refl)) (λ n. tt))
    where
      positive : (n : ℕ) → (n == 0) ≡ false → 0 < n
      positive n q = grind (arith, q)

  pick-kind-typed : (at : Span) (name : Ident) (e i : TypedExpr) (m : Member) (kind : FieldKind) → Good e → Good i → MemberGood p.structs e.kind m → m.kind ≡ kind
      → IfOk (pick_of_kind at name e i m kind) Good
  unfolding FormTyped hidden-the_row-TypedExpr-0 shape-the_row-TypedExpr-0 denote.Hole.Carrier.hidden
  pick-kind-typed at name e i m (Plain kind) h k g is = tt
  pick-kind-typed at name e i m CellInt h k g is = element-typed at name ModInt e i m (h, g.left, refl, rw (g.there, is) refl) k g.row
  pick-kind-typed at name e i m (CellPtr t) h k g is = element-typed at name (ModPtr t) e i m (h, g.left, refl, rw (g.there, is) refl) k g.row

  pick-typed : (at : Span) (name : Ident) (e i : TypedExpr) → Good e → Good i → IfOk (pick_at p.structs at name e i) Good
  unfolding pick_at
  pick-typed at name e i h k =
      after-keeps (MemberGood p.structs e.kind) Good (pick_of at name e i) (member p.structs name e) (member-good p.structs name e)
      (λ m g. pick-kind-typed at name e i m m.kind h k g refl)

  none-picked : (r q : Result TypedExpr Fault) → IfOk r Good → IfOk q Good → IfOk (both no_pick r q) Good
  none-picked r q h k = both-keeps Good Good Good no_pick r q h k (λ e i g l. tt)

  none-typed : (r : Result TypedExpr Fault) → IfOk r Good → IfOk (after no_address r) Good
  none-typed r h = after-keeps Good Good no_address r h (λ e k. tt)

  module _ (scope : Scope) (good : ScopeGood scope seen kinds) where
    mutual
      unfolding typed_form FormTyped

      form-typed : (at : Span) (form : ExprForm) → IfOk (typed_form p own scope at form) Good
      form-typed at (Num n) = refl
      form-typed at Null = refl
      form-typed at (Var name) = variable-typed at name (lookup (bytes_eq name.text) scope) (All-lookup (VariableGood seen kinds) (bytes_eq name.text) scope good)
      form-typed at Own = own-typed at own refl
      form-typed at (Unary' op _ a) = after-keeps Good Good (unary_at at op) (typed_operand p own scope a) (operand-typed a) (unary-typed at op)
      form-typed at (Binary' op sign _ a _ b) =
          both-keeps Good Good Good (binary_at at op sign) (typed_operand p own scope a) (typed_operand p own scope b) (operand-typed a) (operand-typed b) (binary-typed at op sign)
      form-typed at (Field' _ a name) = after-keeps Good Good (field_at p.structs at name) (typed_operand p own scope a) (operand-typed a) (field-typed at name)
      form-typed at (Address' _ (more_of-Expr span (Field' _ a name) rest)) =
          after-keeps Good Good (address_at p.structs at name) (typed_operand p own scope a) (operand-typed a) (address-typed at name)
      form-typed at (Address' _ a) = none-typed (typed_operand p own scope a) (operand-typed a)
      form-typed at (Pick' _ (more_of-Expr span (Field' _ a name) rest) _ i) =
          both-keeps Good Good Good (pick_at p.structs at name) (typed_operand p own scope a) (typed_operand p own scope i) (operand-typed a) (operand-typed i) (pick-typed at name)
      form-typed at (Pick' _ a _ i) = none-picked (typed_operand p own scope a) (typed_operand p own scope i) (operand-typed a) (operand-typed i)

      operand-typed : {n : _} → (a : Row_of-Expr n) → IfOk (typed_operand p own scope a) Good
      operand-typed end_of-Expr = refl
      operand-typed (more_of-Expr span form rest) = form-typed span form

    pub expr-typed : (e : Expr) → IfOk (typed_expr p own scope e) Good
    expr-typed e = form-typed e.span e.form

    pub condition-typed : (e : Expr) → IfOk (condition p own scope e) (λ t. Good t × (t.kind ≡ Some Int))
    condition-typed e =
        after-keeps Good (λ t. Good t × (t.kind ≡ Some Int)) int_asked (typed_expr p own scope e) (expr-typed e)
        (λ t h. if-keeps (λ u. Good u × (u.kind ≡ Some Int)) (suits Int t.kind) (Ok t) (fault T1 t.span) (λ b. (h, int-suited t.kind b)) (λ n. tt))

    pub exprs-typed : (es : List Expr) → IfOk (typed_exprs p own scope es) (All Good)
    exprs-typed es = turn-keeps (with_expr p own scope) (All Good)
        (λ e done h. mapped-keeps Good (All Good) (at_end done) (typed_expr p own scope e) (expr-typed e) (λ t k. All-push Good done t h k))
        es [] (λ k d l. absurd (omega arith))
