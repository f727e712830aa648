-- The type of an expression, at each form that has operands.
use Rattle.std.proofs.Common.{◌≡◌, ℕ, ℤ, Bool, true, false, Some, None, List, refl, slice_get, unwrap_or, if◌then◌else◌}
use Rattle.ceal_base.specs.Shapes.{row_at}
use Rattle.ceal_base.specs.declared.kind.Kind.{Kind}
use Rattle.ceal_base.specs.declared.kind.Kind.TheVariants.{Int}
use Rattle.ceal_base.specs.declared.kind.Shape.TheVariants.{Struct}
use Rattle.ceal_base.specs.declared.operators.Binary.{Binary as BinaryOp}
use Rattle.ceal_base.specs.declared.operators.Unary.{Unary as UnaryOp}
use Rattle.ceal_base.specs.declared.typed.StructInfo.{StructInfo}
use Rattle.ceal_code.specs.Valid.{type_of, fits, int_if, binary_type, is_row_of, starts_row, left_suits, variable_type, points_to, plain_type, cell_type}
use Rattle.ceal_code.specs.Value.{field_kind}
use Rattle.ceal_code.specs.declared.expr.CodeExpr.{CodeExpr}
use Rattle.ceal_code.specs.declared.expr.CodeExpr.TheBlock.{hidden-the_row-CodeExpr-0, shape-the_row-CodeExpr-0}
use Rattle.ceal_code.specs.declared.expr.CodeExpr.TheVariants.{Num, Null, Var}
use Rattle.ceal_code.specs.declared.expr.CodeExpr.TheViews.{Unary, Binary, Field, Address}
use Rattle.ceal_code.specs.declared.expr.VarId.{VarId}
use Rattle.ceal_code.specs.declared.typing.ExprType.TheVariants.{Of, AnyPointer}

module _ (structs : List StructInfo) (kinds : List Kind) (known : List Bool) where
  pub type-num : (n : ℤ) → type_of structs kinds known (Num n) ≡ Some (Of Int)
  unfolding type_of
  type-num n = refl

  pub type-null : type_of structs kinds known Null ≡ Some AnyPointer
  unfolding type_of
  type-null = refl

  pub type-var : (v : VarId) → type_of structs kinds known (Var v) ≡ variable_type (slice_get kinds v.0) (unwrap_or (slice_get known v.0) false)
  unfolding type_of
  type-var v = refl

  pub type-unary : (op : UnaryOp) (a : CodeExpr) → type_of structs kinds known (Unary op a) ≡ int_if (fits Int (type_of structs kinds known a))
  unfolding type_of hidden-the_row-CodeExpr-0 shape-the_row-CodeExpr-0 denote.Hole.Carrier.hidden
  type-unary op a = refl

  pub type-binary : (op : BinaryOp) (a b : CodeExpr)
      → type_of structs kinds known (Binary op a b)
      ≡ (if left_suits structs op a then binary_type op (type_of structs kinds known a) (type_of structs kinds known b) else None)
  unfolding type_of hidden-the_row-CodeExpr-0 shape-the_row-CodeExpr-0 denote.Hole.Carrier.hidden
  type-binary op a b = refl

  pub type-field : (a : CodeExpr) (s field : ℕ)
      → type_of structs kinds known (Field a s field)
      ≡ (if points_to s (type_of structs kinds known a) then plain_type (field_kind structs (Struct s) field) else None)
  unfolding type_of hidden-the_row-CodeExpr-0 shape-the_row-CodeExpr-0 denote.Hole.Carrier.hidden
  type-field a s field = refl

  pub type-address : (a : CodeExpr) (s field : ℕ)
      → type_of structs kinds known (Address a s field)
      ≡ (if points_to s (type_of structs kinds known a) then cell_type (field_kind structs (Struct s) field) else None)
  unfolding type_of hidden-the_row-CodeExpr-0 shape-the_row-CodeExpr-0 denote.Hole.Carrier.hidden
  type-address a s field = refl

module _ (structs : List StructInfo) (row : ℕ) where
  pub row-null : starts_row structs row Null ≡ true
  row-null = refl

  pub row-num : (n : ℤ) → starts_row structs row (Num n) ≡ false
  row-num n = refl

  pub row-var : (v : VarId) → starts_row structs row (Var v) ≡ false
  row-var v = refl

  pub row-unary : (op : UnaryOp) (a : CodeExpr) → starts_row structs row (Unary op a) ≡ false
  unfolding hidden-the_row-CodeExpr-0 shape-the_row-CodeExpr-0 denote.Hole.Carrier.hidden
  row-unary op a = refl

  pub row-binary : (op : BinaryOp) (a b : CodeExpr) → starts_row structs row (Binary op a b) ≡ false
  unfolding hidden-the_row-CodeExpr-0 shape-the_row-CodeExpr-0 denote.Hole.Carrier.hidden
  row-binary op a b = refl

  pub row-field : (a : CodeExpr) (s field : ℕ) → starts_row structs row (Field a s field) ≡ false
  unfolding hidden-the_row-CodeExpr-0 shape-the_row-CodeExpr-0 denote.Hole.Carrier.hidden
  row-field a s field = refl

  pub row-address : (a : CodeExpr) (s field : ℕ) → starts_row structs row (Address a s field) ≡ is_row_of row (row_at structs s field)
  unfolding hidden-the_row-CodeExpr-0 shape-the_row-CodeExpr-0 denote.Hole.Carrier.hidden
  row-address a s field = refl

pub ruleset row_steps = (row-null, row-num, row-var, row-unary, row-binary, row-field, row-address)

pub ruleset type_steps = (type-num, type-null, type-var, type-unary, type-binary, type-field, type-address)
