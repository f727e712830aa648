-- An expression that agrees with one of the source and is well typed is what the walk gives.
use Rattle.std.proofs.Common.{◌≡◌, ℕ, suc, ◌<◌, ◌==◌, arith, append_assoc, append-nil, true, false, Option, Some, None}
use Rattle.std.proofs.Common.{Result, Ok, List, [], ◌∷◌, ◌++◌, All, map, slice_get, refl, sym, subst, ap, ◌∙◌}
use Rattle.std.proofs.Common.{if◌then◌else◌}
use Rattle.std.specs.Prelude.{IfSome, IsSome}
use Rattle.std.specs.Map.{lookup}
use Rattle.std.specs.Option.{option_map}
use Rattle.std.specs.Str.{bytes_eq}
use Rattle.std.proofs.lemmas.Bool.{false≢true}
use Rattle.std.proofs.lemmas.Map.Entries.{All-lookup}
use Rattle.ceal_base.specs.Shapes.{row_at}
use Rattle.ceal_base.specs.WellTyped.{Context, FormTyped, ExprTyped, OperandsSuit, FormStartsRow, kind_given, plain_kind, address_kind, field_kind}
use Rattle.ceal_base.specs.declared.fault.Fault.{Fault}
use Rattle.ceal_base.specs.declared.fault.FaultCode.TheVariants.{T1}
use Rattle.ceal_base.specs.declared.fault.Span.{Span}
use Rattle.ceal_base.specs.declared.kind.FieldKind.{FieldKind}
use Rattle.ceal_base.specs.declared.kind.FieldKind.TheVariants.{Plain, CellInt, CellPtr}
use Rattle.ceal_base.specs.declared.kind.Kind.{Kind}
use Rattle.ceal_base.specs.declared.kind.Kind.TheVariants.{Int, Ptr, ModInt, ModPtr}
use Rattle.ceal_base.specs.declared.operators.Binary.{Binary as BinaryOp}
use Rattle.ceal_base.specs.declared.operators.Binary.TheVariants.{Add, Sub, Mul, Div, Rem, Less, LessEq, More, MoreEq, Same, Differ, And, Or, Pick}
use Rattle.ceal_base.specs.declared.operators.Unary.{Unary as UnaryOp}
use Rattle.ceal_base.specs.declared.syntax.Expr.{Expr}
use Rattle.ceal_base.specs.declared.syntax.ExprForm.{ExprForm, Num, Null, Var, Own, Unary', Binary', Field', Address', Pick'}
use Rattle.ceal_base.specs.declared.syntax.ExprForm.TheBlock.{Row_of-Expr, end_of-Expr, more_of-Expr}
use Rattle.ceal_base.specs.declared.syntax.Ident.{Ident}
use Rattle.ceal_base.specs.declared.typed.TypedExpr.{TypedExpr}
use Rattle.ceal_base.specs.declared.typed.TypedForm.{TypedForm, Num as NumForm, Null as NullForm, Var as VarForm, Own as OwnForm}
use Rattle.ceal_base.specs.declared.typed.TypedForm.TheViews as typed
use Rattle.ceal_base.specs.declared.typed.TypedForm.TheBlock.{hidden-the_row-TypedExpr-0, shape-the_row-TypedExpr-0}
use Rattle.ceal_base.specs.declared.typed.TypedFunction.{TypedFunction}
use Rattle.ceal_types.specs.Checked.{struct_info}
use Rattle.ceal_types.specs.Expressions.{Scope, Fields, typed_form, typed_operand, typed_expr, typed_exprs, with_expr}
use Rattle.ceal_types.specs.Expressions.{condition, variable_at, own_at, int_asked, unary_at, unary_of, binary_at}
use Rattle.ceal_types.specs.Expressions.{binary_of, comparison, int_operation, expression, field_or_row, element_of}
use Rattle.ceal_types.specs.Expressions.{element_of_row, pick_of_kind, pick_of, pick_at, field_named, field_of_struct}
use Rattle.ceal_types.specs.Expressions.{member_of, member, value_of_field, field_of, field_at, place_of_field}
use Rattle.ceal_types.specs.Expressions.{address_of, address_at}
use Rattle.ceal_types.specs.Kinds.{suits, comparable}
use Rattle.ceal_types.specs.Resolves.{IsSign, IsForm, IsMember, FormResolves, OperandResolves, ExprResolves, ExprsResolve, field_names, member_number}
use Rattle.ceal_types.specs.Tables.{Name, value_at}
use Rattle.ceal_types.specs.Walk.{fault, in_turn, at_end}
use Rattle.ceal_types.specs.declared.program.Field.{Field}
use Rattle.ceal_types.specs.declared.program.Member.{Member}
use Rattle.ceal_types.specs.declared.program.Program.{Program}
use Rattle.ceal_types.specs.declared.program.Variable.{Variable}
use Rattle.ceal_types.proofs.Resolution.ExpressionResolved.{Whole}
use Rattle.ceal_types.proofs.Typing.ExpressionTyped.{around, MemberGood, member-good}
use Rattle.ceal_types.proofs.Walks.WalkKeeps.{ok-at}
use Rattle.ceal_types.proofs.Resolution.NumbersOfNames.{numbers, number_of, lookup-numbers, first, member-place}
use Rattle.ceal_types.proofs.Resolution.NumbersOfNames.{names-there, none-there, some-same, after-at, mapped-at}
use Rattle.ceal_types.proofs.Resolution.NumbersOfNames.{both-at, if-true, if-false, same-expr, comparable-true}

-- the variables in scope have these kinds
abbrev pub VariableKind : List Kind → Variable → Type 0
VariableKind kinds v = slice_get kinds v.number ≡ Some v.kind

abbrev pub ScopeKinds : List Kind → Scope → Type 0
ScopeKinds kinds scope = All (λ e. VariableKind kinds e.1) scope

ok-expr : (x : TypedExpr) (at : Span) (kind : Option Kind) (form : TypedForm) → IsForm at form x → x.kind ≡ kind → ◌≡◌ {A = Result TypedExpr Fault} (Ok (expression at kind form)) (Ok x)
ok-expr x at kind form f k = ap Ok (same-expr x at kind form f.0 k f.1)

-- ---- variables and `self`
variable-complete : (at : Span) (name : Ident) (n : ℕ) (kinds : List Kind) (x : TypedExpr) → IsForm at (VarForm n) x → slice_get kinds n ≡ x.kind
    → (o : Option Variable) → IfSome o (VariableKind kinds) → option_map number_of o ≡ Some n → variable_at at name o ≡ Ok x
variable-complete at name n kinds x form kind None known is = cc
variable-complete at name n kinds x form kind (Some v) known is =
    let same = some-same v.number n is in
    ok-expr x at (Some v.kind) (VarForm v.number) (form.0, form.1 ∙ ap VarForm (sym same)) (sym kind ∙ ap (λ (k : ℕ). slice_get kinds k) (sym same) ∙ known)

own-complete : (at : Span) (x : TypedExpr) → IsForm at OwnForm x → (o : Option ℕ) → IfSome o (λ s. x.kind ≡ Some (Ptr s)) → IsSome o → own_at at o ≡ Ok x
own-complete at x form None kind there = absurd (false≢true there)
own-complete at x form (Some s) kind there = ok-expr x at (Some (Ptr s)) OwnForm form kind

-- ---- operators
unary-complete : (at : Span) (op : UnaryOp) (y x : TypedExpr) → IsForm at (typed.Unary op y) x → y.kind ≡ Some Int → x.kind ≡ Some Int → unary_at at op y ≡ Ok x
unary-complete at op y x form h k =
    if-true (suits Int y.kind) (Ok (unary_of at op y)) (fault T1 y.span) (Ok x) (ap (suits Int) h) (ok-expr x at (Some Int) (typed.Unary op y) form k)

compared-complete : (at : Span) (op : BinaryOp) (sign : Span) (y z x : TypedExpr) → IsForm at (typed.Binary op sign y z) x → comparable y.kind z.kind ≡ true
    → x.kind ≡ Some Int → comparison at op sign y z ≡ Ok x
compared-complete at op sign y z x form h k =
    if-true (comparable y.kind z.kind) (Ok (binary_of at op sign y z)) (fault T1 sign) (Ok x) h (ok-expr x at (Some Int) (typed.Binary op sign y z) form k)

computed-complete : (at : Span) (op : BinaryOp) (sign : Span) (y z x : TypedExpr) → IsForm at (typed.Binary op sign y z) x
    → (y.kind ≡ Some Int) × (z.kind ≡ Some Int) → x.kind ≡ Some Int → int_operation at op sign y z ≡ Ok x
computed-complete at op sign y z x form h k =
    if-true (suits Int y.kind) (if suits Int z.kind then Ok (binary_of at op sign y z) else fault T1 z.span) (fault T1 y.span) (Ok x) (ap (suits Int) h.0)
    (if-true (suits Int z.kind) (Ok (binary_of at op sign y z)) (fault T1 z.span) (Ok x) (ap (suits Int) h.1) (ok-expr x at (Some Int) (typed.Binary op sign y z) form k))

binary-complete : (at : Span) (op : BinaryOp) (sign : Span) (y z x : TypedExpr) → IsSign op → IsForm at (typed.Binary op sign y z) x
    → OperandsSuit op y.kind z.kind → x.kind ≡ kind_given op y.kind → binary_at at op sign y z ≡ Ok x
binary-complete at Same sign y z x s form h k = compared-complete at Same sign y z x form (comparable-true y.kind z.kind h) k
binary-complete at Differ sign y z x s form h k = compared-complete at Differ sign y z x form (comparable-true y.kind z.kind h) k
binary-complete at Add sign y z x s form h k = computed-complete at Add sign y z x form h k
binary-complete at Sub sign y z x s form h k = computed-complete at Sub sign y z x form h k
binary-complete at Mul sign y z x s form h k = computed-complete at Mul sign y z x form h k
binary-complete at Div sign y z x s form h k = computed-complete at Div sign y z x form h k
binary-complete at Rem sign y z x s form h k = computed-complete at Rem sign y z x form h k
binary-complete at Less sign y z x s form h k = computed-complete at Less sign y z x form h k
binary-complete at LessEq sign y z x s form h k = computed-complete at LessEq sign y z x form h k
binary-complete at More sign y z x s form h k = computed-complete at More sign y z x form h k
binary-complete at MoreEq sign y z x s form h k = computed-complete at MoreEq sign y z x form h k
binary-complete at And sign y z x s form h k = computed-complete at And sign y z x form h k
binary-complete at Or sign y z x s form h k = computed-complete at Or sign y z x form h k
binary-complete at (Pick row) sign y z x s form h k = absurd s

-- ---- members
-- the member of this name
pub record Meant (structs : List (Name × Fields)) (name : Ident) (y : TypedExpr) (s f row : ℕ) : Type 0 where
  pub meant : Member
  pub found : member structs name y ≡ Ok meant
  pub shape : meant.shape ≡ s
  pub field : meant.field ≡ f
  pub kind : field_kind (map struct_info structs) s f ≡ Some meant.kind
  pub length : meant.row ≡ row

module _ (structs : List (Name × Fields)) (name : Ident) where
  -- a member with these numbers
  abbrev Numbered : ℕ → ℕ → Result Member Fault → Type 0
  Numbered s f r = (m : Member) × (r ≡ Ok m) × (m.shape ≡ s) × (m.field ≡ f)

  field-meant : (s f : ℕ) (o : Option (ℕ × Field)) → option_map first o ≡ Some f → Numbered s f (field_named name s o)
  field-meant s f None h = cc
  field-meant s f (Some g) h = (_, refl, refl, some-same g.0 f h)

  struct-meant : (s f : ℕ) → member_number (field_names (slice_get (map struct_info structs) s)) name.text ≡ Some f → (o : Option Fields) → value_at structs s ≡ o
      → Numbered s f (field_of_struct name s o)
  struct-meant s f h None there =
      let none : member_number [] name.text ≡ Some f = ap (λ (l : List Name). member_number l name.text) (sym (none-there structs s there)) ∙ h in
      absurd (no-number f none)
    where
      no-number : (f : ℕ) → ◌≡◌ {A = Option ℕ} None (Some f) → ⊥
      no-number f e = cc
  struct-meant s f h (Some fields) there =
      field-meant s f (field_or_row fields name.text)
      (member-place fields name.text ∙ ap (λ (l : List Name). member_number l name.text) (sym (names-there structs s fields there)) ∙ h)

  kind-meant : (at : Span) (s f : ℕ) → member_number (field_names (slice_get (map struct_info structs) s)) name.text ≡ Some f → Numbered s f (member_of structs at name (Some (Ptr s)))
  kind-meant at s f h = struct-meant s f h (value_at structs s) refl

  pub member-meant : (y : TypedExpr) (s f row : ℕ) → y.kind ≡ Some (Ptr s)
      → member_number (field_names (slice_get (map struct_info structs) s)) name.text ≡ Some f → row_at (map struct_info structs) s f ≡ Some row
      → Meant structs name y s f row
  unfolding member
  member-meant y s f row left there rows =
      let found = kind-meant y.span s f there in
      let is : member_of structs y.span name y.kind ≡ Ok found.0 = ap (member_of structs y.span name) left ∙ found.1 in
      let good = ok-at (MemberGood structs y.kind) (member_of structs y.span name y.kind) found.0 is (member-good structs name y) in
      record {
        meant = found.0;
        found = is;
        shape = found.2;
        field = found.3;
        kind = (λ i. field_kind (map struct_info structs) (sym found.2 i) (sym found.3 i)) ∙ good.there;
        length = some-same found.0.row row (sym good.row ∙ (λ i. row_at (map struct_info structs) (found.2 i) (found.3 i)) ∙ rows);
      }

-- ---- what is at a member
no-kind : (kind : Option Kind) → None ≡ kind → IsSome kind → ⊥
no-kind None e there = false≢true there
no-kind (Some k) e there = cc

value-complete : (at : Span) (name : Ident) (y x : TypedExpr) (s f : ℕ) → IsForm at (typed.Field y s f) x → IsSome x.kind → (kind : FieldKind)
    → plain_kind (Some kind) ≡ x.kind → value_of_field at name y s f kind ≡ Ok x
value-complete at name y x s f form there (Plain kind) k = ok-expr x at (Some kind) (typed.Field y s f) form (sym k)
value-complete at name y x s f form there CellInt k = absurd (no-kind x.kind k there)
value-complete at name y x s f form there (CellPtr t) k = absurd (no-kind x.kind k there)

place-complete : (at : Span) (name : Ident) (y x : TypedExpr) (s f : ℕ) → IsForm at (typed.Address y s f) x → IsSome x.kind → (kind : FieldKind)
    → address_kind (Some kind) ≡ x.kind → place_of_field at name y s f kind ≡ Ok x
place-complete at name y x s f form there (Plain kind) k = absurd (no-kind x.kind k there)
place-complete at name y x s f form there CellInt k = ok-expr x at (Some ModInt) (typed.Address y s f) form (sym k)
place-complete at name y x s f form there (CellPtr t) k = ok-expr x at (Some (ModPtr t)) (typed.Address y s f) form (sym k)

positive : (n row : ℕ) → n ≡ row → 0 < row → (n == 0) ≡ false
positive n row e h = grind (arith, e, h)

element-complete : (at : Span) (name : Ident) (kind : Kind) (y z w x : TypedExpr) (m : Member) → IsForm at (typed.Address y m.shape m.field) w
    → IsForm at (typed.Binary (Pick m.row) name.span w z) x → w.kind ≡ Some kind → x.kind ≡ w.kind → z.kind ≡ Some Int → (m.row == 0) ≡ false
    → element_of_row at name kind y z m ≡ Ok x
element-complete at name kind y z w x m place form wk xk zk some =
    let here = expression at (Some kind) (typed.Address y m.shape m.field) in
    let same : expression at (Some kind) (typed.Address y m.shape m.field) ≡ w = same-expr w at (Some kind) (typed.Address y m.shape m.field) place.0 wk place.1 in
    if-false (m.row == 0) (fault T1 name.span) (element_of at name kind here z m.row) (Ok x) some
    (if-true (suits Int z.kind) (Ok (expression at (Some kind) (typed.Binary (Pick m.row) name.span here z))) (fault T1 z.span) (Ok x) (ap (suits Int) zk)
    (ok-expr x at (Some kind) (typed.Binary (Pick m.row) name.span here z)
    (form.0, form.1 ∙ ap (λ (e : TypedExpr). typed.Binary (Pick m.row) name.span e z) (sym same)) (xk ∙ wk)))

pick-complete : (at : Span) (name : Ident) (y z w x : TypedExpr) (m : Member) → IsForm at (typed.Address y m.shape m.field) w
    → IsForm at (typed.Binary (Pick m.row) name.span w z) x → IsSome w.kind → x.kind ≡ w.kind → z.kind ≡ Some Int → (m.row == 0) ≡ false
    → (kind : FieldKind) → address_kind (Some kind) ≡ w.kind → pick_of_kind at name y z m kind ≡ Ok x
pick-complete at name y z w x m place form there xk zk some (Plain kind) k = absurd (no-kind w.kind k there)
pick-complete at name y z w x m place form there xk zk some CellInt k = element-complete at name ModInt y z w x m place form (sym k) xk zk some
pick-complete at name y z w x m place form there xk zk some (CellPtr t) k = element-complete at name (ModPtr t) y z w x m place form (sym k) xk zk some

module _ (p : Program) (fs : List TypedFunction) (own : Option ℕ) (kinds : List Kind) (seen : List ℕ) where
  abbrev Here : Context
  Here = around p fs own kinds

  abbrev Typed : TypedForm → TypedExpr → Type 0
  Typed form x = FormTyped Here seen x.kind form

  as-form : (at : Span) (form : TypedForm) (x : TypedExpr) → IsForm at form x → ExprTyped Here seen x → Typed form x
  as-form at form x f t = subst (λ (g : TypedForm). FormTyped Here seen x.kind g) f.1 t

  -- of a field
  field-complete : (at : Span) (name : Ident) (y x : TypedExpr) (s f row : ℕ) → IsMember (Whole p fs) s name f row → IsForm at (typed.Field y s f) x
      → y.kind ≡ Some (Ptr s) → IsSome x.kind → plain_kind (field_kind (map struct_info p.structs) s f) ≡ x.kind → field_at p.structs at name y ≡ Ok x
  unfolding field_at
  field-complete at name y x s f row h form left there kind =
      let m = member-meant p.structs name y s f row left h.0 h.1 in
      after-at (field_of at name y) (member p.structs name y) m.meant (Ok x) m.found
      (value-complete at name y x m.meant.shape m.meant.field (form.0, form.1 ∙ (λ i. typed.Field y (sym m.shape i) (sym m.field i))) there m.meant.kind
      (sym (ap plain_kind m.kind) ∙ kind))

  address-complete : (at : Span) (name : Ident) (y x : TypedExpr) (s f : ℕ) → IsMember (Whole p fs) s name f 0 → IsForm at (typed.Address y s f) x
      → y.kind ≡ Some (Ptr s) → IsSome x.kind → address_kind (field_kind (map struct_info p.structs) s f) ≡ x.kind → address_at p.structs at name y ≡ Ok x
  unfolding address_at
  address-complete at name y x s f h form left there kind =
      let m = member-meant p.structs name y s f 0 left h.0 h.1 in
      after-at (address_of at name y) (member p.structs name y) m.meant (Ok x) m.found
      (if-true (m.meant.row == 0) (place_of_field at name y m.meant.shape m.meant.field m.meant.kind) (fault T1 name.span) (Ok x) (ap (λ (n : ℕ). n == 0) m.length)
      (place-complete at name y x m.meant.shape m.meant.field (form.0, form.1 ∙ (λ i. typed.Address y (sym m.shape i) (sym m.field i))) there m.meant.kind
      (sym (ap address_kind m.kind) ∙ kind)))

  picked-complete : (at : Span) (name : Ident) (y z w x : TypedExpr) (s f row : ℕ) → IsMember (Whole p fs) s name f row → IsForm at (typed.Address y s f) w
      → IsForm at (typed.Binary (Pick row) name.span w z) x → y.kind ≡ Some (Ptr s) → IsSome w.kind → x.kind ≡ w.kind → z.kind ≡ Some Int → 0 < row
      → address_kind (field_kind (map struct_info p.structs) s f) ≡ w.kind → pick_at p.structs at name y z ≡ Ok x
  unfolding pick_at
  picked-complete at name y z w x s f row h place form left there xk zk some kind =
      let m = member-meant p.structs name y s f row left h.0 h.1 in
      after-at (pick_of at name y z) (member p.structs name y) m.meant (Ok x) m.found
      (pick-complete at name y z w x m.meant (place.0, place.1 ∙ (λ i. typed.Address y (sym m.shape i) (sym m.field i)))
      (form.0, form.1 ∙ (λ i. typed.Binary (Pick (sym m.length i)) name.span w z)) there xk zk (positive m.meant.row row m.length some) m.meant.kind
      (sym (ap address_kind m.kind) ∙ kind))

  -- the parts of what is typed
  unary-parts : (op : UnaryOp) (y x : TypedExpr) → Typed (typed.Unary op y) x → ExprTyped Here seen y × (y.kind ≡ Some Int) × (x.kind ≡ Some Int)
  unfolding FormTyped hidden-the_row-TypedExpr-0 shape-the_row-TypedExpr-0 denote.Hole.Carrier.hidden
  unary-parts op y x t = t

  binary-parts : (op : BinaryOp) (sign : Span) (y z x : TypedExpr) → Typed (typed.Binary op sign y z) x
      → ExprTyped Here seen y × ExprTyped Here seen z × OperandsSuit op y.kind z.kind × (x.kind ≡ kind_given op y.kind)
  unfolding FormTyped hidden-the_row-TypedExpr-0 shape-the_row-TypedExpr-0 denote.Hole.Carrier.hidden
  binary-parts op sign y z x t = (t.0, t.1, t.2, t.4)

  row-starts : (row : ℕ) (sign : Span) (y z x : TypedExpr) → Typed (typed.Binary (Pick row) sign y z) x → FormStartsRow (map struct_info p.structs) row y.form
  unfolding FormTyped hidden-the_row-TypedExpr-0 shape-the_row-TypedExpr-0 denote.Hole.Carrier.hidden
  row-starts row sign y z x t = t.3

  field-parts : (y x : TypedExpr) (s f : ℕ) → Typed (typed.Field y s f) x
      → ExprTyped Here seen y × (y.kind ≡ Some (Ptr s)) × IsSome x.kind × (plain_kind (field_kind (map struct_info p.structs) s f) ≡ x.kind)
  unfolding FormTyped hidden-the_row-TypedExpr-0 shape-the_row-TypedExpr-0 denote.Hole.Carrier.hidden
  field-parts y x s f t = t

  address-parts : (y x : TypedExpr) (s f : ℕ) → Typed (typed.Address y s f) x
      → ExprTyped Here seen y × (y.kind ≡ Some (Ptr s)) × IsSome x.kind × (address_kind (field_kind (map struct_info p.structs) s f) ≡ x.kind)
  unfolding FormTyped hidden-the_row-TypedExpr-0 shape-the_row-TypedExpr-0 denote.Hole.Carrier.hidden
  address-parts y x s f t = t

  starts-positive : (row : ℕ) (y : TypedExpr) (s f : ℕ) → FormStartsRow (map struct_info p.structs) row (typed.Address y s f) → 0 < row
  unfolding hidden-the_row-TypedExpr-0 shape-the_row-TypedExpr-0 denote.Hole.Carrier.hidden
  starts-positive row y s f h = h.0

  num-kind : (n : _) (x : TypedExpr) → Typed (NumForm n) x → x.kind ≡ Some Int
  unfolding FormTyped
  num-kind n x t = t

  null-kind : (x : TypedExpr) → Typed NullForm x → x.kind ≡ None
  unfolding FormTyped
  null-kind x t = t

  variable-kind : (n : ℕ) (x : TypedExpr) → Typed (VarForm n) x → slice_get kinds n ≡ x.kind
  unfolding FormTyped
  variable-kind n x t = t.2

  own-kind : (x : TypedExpr) → Typed OwnForm x → IfSome own (λ s. x.kind ≡ Some (Ptr s)) × IsSome own
  unfolding FormTyped
  own-kind x t = t

  module _ (scope : Scope) (good : ScopeKinds kinds scope) where
    mutual
      unfolding typed_form FormResolves

      form-complete : (at : Span) (form : ExprForm) (x : TypedExpr) → FormResolves (Whole p fs) (numbers scope) at form x → ExprTyped Here seen x
          → typed_form p own scope at form ≡ Ok x
      form-complete at (Num n) x h t = ok-expr x at (Some Int) (NumForm n) h (num-kind n x (as-form at (NumForm n) x h t))
      form-complete at Null x h t = ok-expr x at None NullForm h (null-kind x (as-form at NullForm x h t))
      form-complete at (Var name) x h t =
          variable-complete at name h.0 kinds x h.2 (variable-kind h.0 x (as-form at (VarForm h.0) x h.2 t)) (lookup (bytes_eq name.text) scope)
          (All-lookup (VariableKind kinds) (bytes_eq name.text) scope good) (sym (lookup-numbers (bytes_eq name.text) scope) ∙ h.1)
      form-complete at Own x h t =
          let k = own-kind x (as-form at OwnForm x h t) in
          own-complete at x h own k.0 k.1
      form-complete at (Unary' op _ a) x h t =
          let k = unary-parts op h.0 x (as-form at (typed.Unary op h.0) x h.2 t) in
          after-at (unary_at at op) (typed_operand p own scope a) h.0 (Ok x) (operand-complete a h.0 h.1 k.0) (unary-complete at op h.0 x h.2 k.1 k.2)
      form-complete at (Binary' op sign _ a _ b) x h t =
          let k = binary-parts op sign h.0 h.1 x (as-form at (typed.Binary op sign h.0 h.1) x h.5 t) in
          both-at (binary_at at op sign) (typed_operand p own scope a) (typed_operand p own scope b) h.0 h.1 (Ok x)
          (operand-complete a h.0 h.3 k.0) (operand-complete b h.1 h.4 k.1) (binary-complete at op sign h.0 h.1 x h.2 h.5 k.2 k.3)
      form-complete at (Field' _ a name) x h t =
          let k = field-parts h.0 x h.1 h.2 (as-form at (typed.Field h.0 h.1 h.2) x h.6 t) in
          after-at (field_at p.structs at name) (typed_operand p own scope a) h.0 (Ok x) (operand-complete a h.0 h.4 k.0)
          (field-complete at name h.0 x h.1 h.2 h.3 h.5 h.6 k.1 k.2 k.3)
      form-complete at (Address' _ (more_of-Expr span (Field' _ a name) rest)) x h t =
          let k = address-parts h.0 x h.1 h.2 (as-form at (typed.Address h.0 h.1 h.2) x h.5 t) in
          after-at (address_at p.structs at name) (typed_operand p own scope a) h.0 (Ok x) (operand-complete a h.0 h.3 k.0)
          (address-complete at name h.0 x h.1 h.2 h.4 h.5 k.1 k.2 k.3)
      form-complete at (Address' _ a) x h t = absurd h
      form-complete at (Pick' _ (more_of-Expr span (Field' _ a name) rest) _ i) x h t =
          let y = h.0 in
          let z = h.1 in
          let w = h.2 in
          let row = h.5 in
          let here = as-form at (typed.Binary (Pick row) name.span w z) x h.10 t in
          let k = binary-parts (Pick row) name.span w z x here in
          let l = address-parts y w h.3 h.4 (as-form at (typed.Address y h.3 h.4) w h.9 k.0) in
          let some = starts-positive row y h.3 h.4 (subst (λ (g : TypedForm). FormStartsRow (map struct_info p.structs) row g) h.9.1 (row-starts row name.span w z x here)) in
          both-at (pick_at p.structs at name) (typed_operand p own scope a) (typed_operand p own scope i) y z (Ok x)
          (operand-complete a y h.6 l.0) (operand-complete i z h.7 k.1)
          (picked-complete at name y z w x h.3 h.4 row h.8 h.9 h.10 l.1 k.2.0 k.3 k.2.1 some l.3)
      form-complete at (Pick' _ a _ i) x h t = absurd h

      operand-complete : {n : _} → (a : Row_of-Expr n) (x : TypedExpr) → OperandResolves (Whole p fs) (numbers scope) a x → ExprTyped Here seen x → typed_operand p own scope a ≡ Ok x
      operand-complete end_of-Expr x h t = ok-expr x (record { from = 0; to = 0 }) None NullForm h (null-kind x (as-form (record { from = 0; to = 0 }) NullForm x h t))
      operand-complete (more_of-Expr span form rest) x h t = form-complete span form x h t

    pub expr-complete : (e : Expr) (x : TypedExpr) → ExprResolves (Whole p fs) (numbers scope) e x → ExprTyped Here seen x → typed_expr p own scope e ≡ Ok x
    expr-complete e x h t = form-complete e.span e.form x h t

    pub condition-complete : (e : Expr) (x : TypedExpr) → ExprResolves (Whole p fs) (numbers scope) e x → ExprTyped Here seen x → x.kind ≡ Some Int → condition p own scope e ≡ Ok x
    condition-complete e x h t k =
        after-at int_asked (typed_expr p own scope e) x (Ok x) (expr-complete e x h t) (if-true (suits Int x.kind) (Ok x) (fault T1 x.span) (Ok x) (ap (suits Int) k) refl)

    exprs-from : (es : List Expr) (xs done : List TypedExpr) → ExprsResolve (Whole p fs) (numbers scope) es xs → All (ExprTyped Here seen) xs
        → in_turn (with_expr p own scope) es done ≡ Ok (done ++ xs)
    unfolding in_turn
    exprs-from [] [] done h t = ap Ok (sym (append-nil done))
    exprs-from [] (x ∷ xs) done h t = absurd h
    exprs-from (e ∷ es) [] done h t = absurd h
    exprs-from (e ∷ es) (x ∷ xs) done h t =
        after-at (in_turn (with_expr p own scope) es) (with_expr p own scope e done) (done ++ x ∷ []) (Ok (done ++ x ∷ xs))
        (mapped-at (at_end done) (typed_expr p own scope e) x (done ++ x ∷ []) (expr-complete e x h.0 (t 0 x (omega arith))) refl)
        (exprs-from es xs (done ++ x ∷ []) h.1 (λ k d l. t (suc k) d (omega (arith, l))) ∙ ap Ok (append_assoc done (x ∷ []) xs))

    pub exprs-complete : (es : List Expr) (xs : List TypedExpr) → ExprsResolve (Whole p fs) (numbers scope) es xs → All (ExprTyped Here seen) xs → typed_exprs p own scope es ≡ Ok xs
    exprs-complete es xs h t = exprs-from es xs [] h t
