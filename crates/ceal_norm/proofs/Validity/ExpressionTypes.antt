-- The variables that a well typed expression mentions are in scope, and the expression of trace code has its type.
use Rattle.std.proofs.Common.{◌≡◌, inl, inr, ℕ, ◌<◌, ◌&&◌, Bool, true, false, Option, Some, None, IsSome, if◌then◌else◌}
use Rattle.std.proofs.Common.{List, [], ◌∷◌, length, map, slice_get, unwrap_or, Contains, All, refl, sym, ap, ap₂, ◌∙◌}
use Rattle.std.proofs.Common.{subst}
use Rattle.std.proofs.lemmas.Bool.{lt-ltb}
use Rattle.std.proofs.lemmas.List.Elements.{All-head, All-tail}
use Rattle.ceal_base.specs.Kinds.{same_kind, is_pointer}
use Rattle.ceal_base.specs.Usage.{WithoutOwn, OperandWithoutOwn}
use Rattle.ceal_base.specs.WellTyped.{Context, FormTyped, OperandTyped, ExprTyped, OperandsSuit, LeftSuits, StartsRow}
use Rattle.ceal_base.specs.WellTyped.{FormStartsRow, kind_given, Comparable, Suits, IsPointer, operand_kind, plain_kind}
use Rattle.ceal_base.specs.WellTyped.{address_kind, ArgsSuit}
use Rattle.ceal_base.specs.declared.kind.FieldKind.{FieldKind}
use Rattle.ceal_base.specs.declared.kind.FieldKind.TheVariants.{Plain as PlainField, CellInt, CellPtr}
use Rattle.ceal_base.specs.declared.kind.Kind.{Kind}
use Rattle.ceal_base.specs.declared.kind.Kind.TheVariants.{Int, Ptr, ModInt, ModPtr}
use Rattle.ceal_base.specs.declared.kind.Shape.TheVariants.{Struct}
use Rattle.ceal_base.specs.declared.operators.Binary.{Binary}
use Rattle.ceal_base.specs.declared.operators.Binary.TheVariants.{Add, Sub, Mul, Div, Rem, Less, LessEq, More, MoreEq, Same, Differ, And, Or, Pick}
use Rattle.ceal_base.specs.declared.typed.StructInfo.{StructInfo}
use Rattle.ceal_base.specs.declared.typed.TypedExpr.{TypedExpr}
use Rattle.ceal_base.specs.declared.typed.TypedForm.TheBlock.{Row_of-TypedExpr, end_of-TypedExpr, more_of-TypedExpr}
use Rattle.ceal_base.specs.declared.typed.TypedForm.{TypedForm, Num, Null, Var, Own, Unary', Binary', Field', Address'}
use Rattle.ceal_code.proofs.Words.SameIsEqual.{both-true, nat-refl}
use Rattle.ceal_code.proofs.Equations.TypeSteps.{type-num, type-null, type-var, type-unary, type-binary, type-field, type-address, row-address}
use Rattle.ceal_code.specs.Valid.{type_of, fits, int_if, one_type, binary_type, is_row_of, starts_row, left_suits, variable_type, points_to, plain_type, cell_type, all_fit}
use Rattle.ceal_code.specs.Value.{field_kind}
use Rattle.ceal_code.specs.declared.typing.ExprType.{ExprType}
use Rattle.ceal_code.specs.declared.typing.ExprType.TheVariants.{Of, AnyPointer}
use Rattle.ceal_flow.specs.Live.{form_mentions, operand_mentions, mentions, all_mentions}
use Rattle.ceal_flow.specs.Sets.{is_in}
use Rattle.ceal_norm.specs.Expressions.{variable, form_code, operand_code, expr_code}
use Rattle.ceal_norm.proofs.Validity.KnownVariables.{some-within, in-first, in-left, in-right, in-cases, in-either}

-- the type in trace code of an expression of this kind
abbrev pub type_for : Option Kind → ExprType
type_for None = AnyPointer
type_for (Some kind) = Of kind

pub kind-refl : (k : Kind) → same_kind k k ≡ true
kind-refl Int = refl
kind-refl (Ptr s) = nat-refl s
kind-refl ModInt = refl
kind-refl (ModPtr s) = nat-refl s

pub pointer-true : (k : Kind) → IsPointer k → is_pointer k ≡ true
pointer-true Int h = absurd h
pointer-true (Ptr s) h = refl
pointer-true ModInt h = refl
pointer-true (ModPtr s) h = refl

pub suits-fits : (asked : Kind) (given : Option Kind) → Suits asked given → fits asked (Some (type_for given)) ≡ true
suits-fits asked None h = pointer-true asked h
suits-fits asked (Some given) h = rw (← h) (kind-refl asked)

comparable-one : (a b : Option Kind) → Comparable a b → one_type (Some (type_for a)) (Some (type_for b)) ≡ true
comparable-one None None h = refl
comparable-one None (Some kind) h = pointer-true kind h
comparable-one (Some kind) None h = pointer-true kind h
comparable-one (Some kind) (Some other) h = rw (← h) (kind-refl kind)

ints : (a b : Option Kind) → (a ≡ Some Int) × (b ≡ Some Int) → int_if (fits Int (Some (type_for a)) && fits Int (Some (type_for b))) ≡ Some (Of Int)
ints a b h = rw (h.0, h.1) refl

binary-suits : (op : Binary) (a b : Option Kind) → OperandsSuit op a b → binary_type op (Some (type_for a)) (Some (type_for b)) ≡ Some (type_for (kind_given op a))
binary-suits Same a b h = ap int_if (comparable-one a b h)
binary-suits Differ a b h = ap int_if (comparable-one a b h)
binary-suits Add a b h = ints a b h
binary-suits Sub a b h = ints a b h
binary-suits Mul a b h = ints a b h
binary-suits Div a b h = ints a b h
binary-suits Rem a b h = ints a b h
binary-suits Less a b h = ints a b h
binary-suits LessEq a b h = ints a b h
binary-suits More a b h = ints a b h
binary-suits MoreEq a b h = ints a b h
binary-suits And a b h = ints a b h
binary-suits Or a b h = ints a b h
binary-suits (Pick row) None b h = let k = h.0 in cc
binary-suits (Pick row) (Some kind) b h = rw h.1 refl

plain-some : (k : Option FieldKind) (kind : Option Kind) → IsSome kind → plain_kind k ≡ kind → plain_type k ≡ Some (type_for kind)
plain-some (Some (PlainField x)) kind h e = ap (λ k. Some (type_for k)) e
plain-some (Some CellInt) kind h e = let k = subst (λ k. IsSome k) (sym e) h in cc
plain-some (Some (CellPtr s)) kind h e = let k = subst (λ k. IsSome k) (sym e) h in cc
plain-some None kind h e = let k = subst (λ k. IsSome k) (sym e) h in cc

cell-some : (k : Option FieldKind) (kind : Option Kind) → IsSome kind → address_kind k ≡ kind → cell_type k ≡ Some (type_for kind)
cell-some (Some (PlainField x)) kind h e = let k = subst (λ k. IsSome k) (sym e) h in cc
cell-some (Some CellInt) kind h e = ap (λ k. Some (type_for k)) e
cell-some (Some (CellPtr s)) kind h e = ap (λ k. Some (type_for k)) e
cell-some None kind h e = let k = subst (λ k. IsSome k) (sym e) h in cc

-- the left operand of a `Pick` is the address of a row's first modifiable
row-starts : (structs : List StructInfo) (row : ℕ) (form : TypedForm) → FormStartsRow structs row form → starts_row structs row (form_code form) ≡ true
unfolding form_code
row-starts structs row (Num n) h = absurd h
row-starts structs row Null h = absurd h
row-starts structs row (Var n) h = absurd h
row-starts structs row Own h = absurd h
row-starts structs row (Unary' op _ a) h = absurd h
row-starts structs row (Binary' op at _ a _ b) h = absurd h
row-starts structs row (Field' _ a s field) h = absurd h
row-starts structs row (Address' _ a s field) h =
    row-address structs row (operand_code a) s field ∙ ap (is_row_of row) h.1 ∙ both-true _ _ (lt-ltb 0 row h.0) (nat-refl row)

operand-starts : (structs : List StructInfo) (row : ℕ) {n : _} (a : Row_of-TypedExpr n) → StartsRow structs row a → starts_row structs row (operand_code a) ≡ true
unfolding form_code
operand-starts structs row end_of-TypedExpr h = absurd h
operand-starts structs row (more_of-TypedExpr span kind form rest) h = row-starts structs row form h

left-suits : (structs : List StructInfo) (op : Binary) {n : _} (a : Row_of-TypedExpr n) → LeftSuits structs op a → left_suits structs op (operand_code a) ≡ true
left-suits structs (Pick row) a h = operand-starts structs row a h
left-suits structs Add a h = refl
left-suits structs Sub a h = refl
left-suits structs Mul a h = refl
left-suits structs Div a h = refl
left-suits structs Rem a h = refl
left-suits structs Less a h = refl
left-suits structs LessEq a h = refl
left-suits structs More a h = refl
left-suits structs MoreEq a h = refl
left-suits structs Same a h = refl
left-suits structs Differ a h = refl
left-suits structs And a h = refl
left-suits structs Or a h = refl

module _ (c : Context) (seen : List ℕ) where
  -- a variable in scope, which the function has
  abbrev pub Seen : ℕ → Type 0
  Seen v = Contains seen v × (v < length c.kinds)

  mutual
    unfolding FormTyped form_mentions

    pub form-seen : (kind : Option Kind) (form : TypedForm) → FormTyped c seen kind form → (v : ℕ) → is_in v (form_mentions form) ≡ true → Seen v
    form-seen kind (Num n) t v h = cc
    form-seen kind Null t v h = cc
    form-seen kind Own t v h = cc
    form-seen kind (Var n) t v h = elim (in-cases v n [] h) [
      | inl e ↦ subst (λ w. Seen w) e (t.0, some-within c.kinds n (rw t.2 t.1))
      | inr k ↦ cc
    ]
    form-seen kind (Unary' op _ a) t v h = operand-seen a t.0 v h
    form-seen kind (Binary' op at _ a _ b) t v h = elim (in-either v (operand_mentions a) (operand_mentions b) h) [
      | inl k ↦ operand-seen a t.0 v k
      | inr k ↦ operand-seen b t.1 v k
    ]
    form-seen kind (Field' _ a s field) t v h = operand-seen a t.0 v h
    form-seen kind (Address' _ a s field) t v h = operand-seen a t.0 v h

    operand-seen : {n : _} (row : Row_of-TypedExpr n) → OperandTyped c seen row → (v : ℕ) → is_in v (operand_mentions row) ≡ true → Seen v
    operand-seen end_of-TypedExpr t v h = cc
    operand-seen (more_of-TypedExpr span kind form rest) t v h = form-seen kind form t v h

  pub exprs-seen : (es : List TypedExpr) → All (ExprTyped c seen) es → (v : ℕ) → is_in v (all_mentions es) ≡ true → Seen v
  unfolding all_mentions
  exprs-seen [] t v h = cc
  exprs-seen (e ∷ es) t v h = elim (in-either v (mentions e) (all_mentions es) h) [
    | inl k ↦ form-seen e.kind e.form (All-head (ExprTyped c seen) e es t) v k
    | inr k ↦ exprs-seen es (All-tail (ExprTyped c seen) e es t) v k
  ]

  -- outside of an initialiser `self` has no type
  mutual
    unfolding FormTyped WithoutOwn

    pub form-without : c.own ≡ None → (kind : Option Kind) (form : TypedForm) → FormTyped c seen kind form → WithoutOwn form
    form-without e kind (Num n) t = tt
    form-without e kind Null t = tt
    form-without e kind (Var n) t = tt
    form-without e kind Own t = let k = subst (λ o. IsSome o) e t.1 in cc
    form-without e kind (Unary' op _ a) t = operand-without e a t.0
    form-without e kind (Binary' op at _ a _ b) t = (operand-without e a t.0, operand-without e b t.1)
    form-without e kind (Field' _ a s field) t = operand-without e a t.0
    form-without e kind (Address' _ a s field) t = operand-without e a t.0

    operand-without : c.own ≡ None → {n : _} (row : Row_of-TypedExpr n) → OperandTyped c seen row → OperandWithoutOwn row
    operand-without e end_of-TypedExpr t = tt
    operand-without e (more_of-TypedExpr span kind form rest) t = form-without e kind form t

  module _ (kinds : List Kind) (known : List Bool) where
    -- the variable is known, and has the same kind
    abbrev pub Has : ℕ → Type 0
    Has v = variable_type (slice_get kinds v) (unwrap_or (slice_get known v) false) ≡ Some (type_for (slice_get c.kinds v))

    mutual
      unfolding FormTyped form_mentions WithoutOwn form_code

      pub form-type : (kind : Option Kind) (form : TypedForm) → FormTyped c seen kind form → WithoutOwn form → ((v : ℕ) → is_in v (form_mentions form) ≡ true → Has v)
          → type_of c.structs kinds known (form_code form) ≡ Some (type_for kind)
      form-type kind (Num n) t w h = type-num c.structs kinds known n ∙ ap (λ k. Some (type_for k)) (sym t)
      form-type kind Null t w h = type-null c.structs kinds known ∙ ap (λ k. Some (type_for k)) (sym t)
      form-type kind (Var n) t w h = type-var c.structs kinds known (variable n) ∙ h n (in-first n []) ∙ ap (λ k. Some (type_for k)) t.2
      form-type kind Own t w h = absurd w
      form-type kind (Unary' op _ a) t w h =
          let e : type_of c.structs kinds known (operand_code a) ≡ Some (Of Int) = operand-type a t.0 w h ∙ ap (λ k. Some (type_for k)) t.1 in
          type-unary c.structs kinds known op (operand_code a) ∙ ap (λ x. int_if (fits Int x)) e ∙ ap (λ k. Some (type_for k)) (sym t.2)
      form-type kind (Binary' op at _ a _ b) t w h =
          let e = operand-type a t.0 w.0 (λ v k. h v (in-left v (operand_mentions a) (operand_mentions b) k)) in
          let f = operand-type b t.1 w.1 (λ v k. h v (in-right v (operand_mentions a) (operand_mentions b) k)) in
          let both : binary_type op (type_of c.structs kinds known (operand_code a)) (type_of c.structs kinds known (operand_code b)) ≡ Some (type_for kind) =
          ap₂ (λ x y. binary_type op x y) e f ∙ binary-suits op (operand_kind a) (operand_kind b) t.2 ∙ ap (λ k. Some (type_for k)) (sym t.4) in
          type-binary c.structs kinds known op (operand_code a) (operand_code b)
          ∙ ap (λ x. if x then binary_type op (type_of c.structs kinds known (operand_code a)) (type_of c.structs kinds known (operand_code b)) else None)
          (left-suits c.structs op a t.3)
          ∙ both
      form-type kind (Field' _ a s field) t w h =
          let e : type_of c.structs kinds known (operand_code a) ≡ Some (Of (Ptr s)) = operand-type a t.0 w h ∙ ap (λ k. Some (type_for k)) t.1 in
          type-field c.structs kinds known (operand_code a) s field
          ∙ ap (λ x. if points_to s x then plain_type (field_kind c.structs (Struct s) field) else None) e
          ∙ ap (λ x. if x then plain_type (field_kind c.structs (Struct s) field) else None) (nat-refl s)
          ∙ plain-some (field_kind c.structs (Struct s) field) kind t.2 t.3
      form-type kind (Address' _ a s field) t w h =
          let e : type_of c.structs kinds known (operand_code a) ≡ Some (Of (Ptr s)) = operand-type a t.0 w h ∙ ap (λ k. Some (type_for k)) t.1 in
          type-address c.structs kinds known (operand_code a) s field
          ∙ ap (λ x. if points_to s x then cell_type (field_kind c.structs (Struct s) field) else None) e
          ∙ ap (λ x. if x then cell_type (field_kind c.structs (Struct s) field) else None) (nat-refl s)
          ∙ cell-some (field_kind c.structs (Struct s) field) kind t.2 t.3

      operand-type : {n : _} (row : Row_of-TypedExpr n) → OperandTyped c seen row → OperandWithoutOwn row → ((v : ℕ) → is_in v (operand_mentions row) ≡ true → Has v)
          → type_of c.structs kinds known (operand_code row) ≡ Some (type_for (operand_kind row))
      operand-type end_of-TypedExpr t w h = type-null c.structs kinds known
      operand-type (more_of-TypedExpr span kind form rest) t w h = form-type kind form t w h

    -- arguments for parameters of these kinds
    pub args-fit : (asked : List Kind) (es : List TypedExpr) → All (ExprTyped c seen) es → ((e : TypedExpr) → ExprTyped c seen e → WithoutOwn e.form) → ArgsSuit asked es
        → ((v : ℕ) → is_in v (all_mentions es) ≡ true → Has v) → all_fit c.structs kinds known asked (map expr_code es) ≡ true
    unfolding all_fit all_mentions
    args-fit [] [] t w s h = refl
    args-fit [] (e ∷ es) t w s h = absurd s
    args-fit (k ∷ ks) [] t w s h = absurd s
    args-fit (k ∷ ks) (e ∷ es) t w s h =
        let typed = All-head (ExprTyped c seen) e es t in
        let is = form-type e.kind e.form typed (w e typed) (λ v i. h v (in-left v (mentions e) (all_mentions es) i)) in
        both-true _ _ (rw is (suits-fits k e.kind s.0))
        (args-fit ks es (All-tail (ExprTyped c seen) e es t) w s.1 (λ v i. h v (in-right v (mentions e) (all_mentions es) i)))
