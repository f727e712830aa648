-- An expression of trace code gives what the program's expression gives.
use Rattle.std.proofs.Common.{◌≡◌, ℕ, zero, suc, ℤ, true, ◌&&◌, Option, Some, None, IsSome, is_some, if◌then◌else◌, List, [], ◌∷◌, map, slice_get, unwrap_or, All, refl, sym, ap, ap₂, ◌∙◌, subst}
use Rattle.std.proofs.lemmas.List.Elements.{All-head, All-tail}
use Rattle.ceal_base.specs.Access.{pointed, word_in, place_in}
use Rattle.ceal_base.specs.Block.{Block, Blocks, block_at}
use Rattle.ceal_base.specs.Operators.{unary_value, binary_value}
use Rattle.ceal_base.specs.Shapes.{default_of}
use Rattle.ceal_base.specs.WellTyped.{Context, FormTyped, OperandTyped, ExprTyped, plain_kind, address_kind}
use Rattle.ceal_base.specs.declared.kind.FieldKind.{FieldKind}
use Rattle.ceal_base.specs.declared.kind.FieldKind.TheVariants.{Plain as PlainField, CellInt, CellPtr}
use Rattle.ceal_base.specs.declared.kind.Kind.{Kind}
use Rattle.ceal_base.specs.declared.kind.Shape.TheVariants.{Struct}
use Rattle.ceal_base.specs.declared.operators.Binary.{Binary as BinaryOp}
use Rattle.ceal_base.specs.declared.operators.Unary.{Unary as UnaryOp}
use Rattle.ceal_base.specs.declared.typed.StructInfo.{StructInfo}
use Rattle.ceal_base.specs.declared.typed.TypedExpr.{TypedExpr}
use Rattle.ceal_base.specs.declared.typed.TypedForm.TheBlock.{Row_of-TypedExpr, end_of-TypedExpr, more_of-TypedExpr}
use Rattle.ceal_base.specs.declared.typed.TypedForm.{TypedForm, Num, Null, Var, Own, Unary', Binary', Field', Address'}
use Rattle.ceal_base.specs.declared.word.Word.{Word}
use Rattle.ceal_base.specs.declared.word.Word.TheVariants.{Num as NumWord, Null as NullWord, Block as BlockWord, At}
use Rattle.ceal_code.specs.Value.{Plain, Variables, field_kind, is_cell, field_in, pointed as code_pointed, field_value, address_value, expr_value, values}
use Rattle.ceal_code.specs.declared.expr.CodeExpr.{CodeExpr}
use Rattle.ceal_code.specs.declared.expr.CodeExpr.TheBlock.{hidden-the_row-CodeExpr-0, shape-the_row-CodeExpr-0}
use Rattle.ceal_code.specs.declared.expr.CodeExpr.TheVariants.{Num as NumCode, Null as NullCode, Var as VarCode}
use Rattle.ceal_code.specs.declared.expr.CodeExpr.TheViews as code
use Rattle.ceal_code.specs.declared.expr.VarId.{VarId}
use Rattle.ceal_flow.specs.Live.{form_mentions, operand_mentions, mentions, all_mentions}
use Rattle.ceal_flow.specs.Sets.{is_in}
use Rattle.ceal_mean.specs.Value.{variable_of, form_value, operand_value, value_of, values_of}
use Rattle.ceal_norm.specs.Expressions.{variable, form_code, operand_code, expr_code}
use Rattle.ceal_norm.specs.Units.{arg_at}
use Rattle.ceal_norm.proofs.Validity.KnownVariables.{in-first, in-left, in-right}

-- the value of an expression, at each form
module _ (structs : List StructInfo) (x : Plain) (env : Variables) where
  pub value-num : (n : ℤ) → expr_value structs x env (NumCode n) ≡ NumWord n
  unfolding expr_value
  value-num n = refl

  pub value-null : expr_value structs x env NullCode ≡ NullWord
  unfolding expr_value
  value-null = refl

  pub value-var : (v : VarId) → expr_value structs x env (VarCode v) ≡ env v.0
  unfolding expr_value
  value-var v = refl

  pub value-unary : (op : UnaryOp) (a : CodeExpr) → expr_value structs x env (code.Unary op a) ≡ unary_value op (expr_value structs x env a)
  unfolding expr_value hidden-the_row-CodeExpr-0 shape-the_row-CodeExpr-0 denote.Hole.Carrier.hidden
  value-unary op a = refl

  pub value-binary : (op : BinaryOp) (a b : CodeExpr)
      → expr_value structs x env (code.Binary op a b) ≡ binary_value op (expr_value structs x env a) (expr_value structs x env b)
  unfolding expr_value hidden-the_row-CodeExpr-0 shape-the_row-CodeExpr-0 denote.Hole.Carrier.hidden
  value-binary op a b = refl

  pub value-field : (a : CodeExpr) (s field : ℕ) → expr_value structs x env (code.Field a s field) ≡ field_value structs x (expr_value structs x env a) s field
  unfolding expr_value hidden-the_row-CodeExpr-0 shape-the_row-CodeExpr-0 denote.Hole.Carrier.hidden
  value-field a s field = refl

  pub value-address : (a : CodeExpr) (s field : ℕ) → expr_value structs x env (code.Address a s field) ≡ address_value structs x (expr_value structs x env a) s field
  unfolding expr_value hidden-the_row-CodeExpr-0 shape-the_row-CodeExpr-0 denote.Hole.Carrier.hidden
  value-address a s field = refl

pointed-same : (m : Blocks) (s : ℕ) (w : Word) → code_pointed (block_at m) s w ≡ pointed m s w
pointed-same m s (NumWord n) = refl
pointed-same m s NullWord = refl
pointed-same m s (BlockWord b) = refl
pointed-same m s (At p) = refl

field-same : (k : Option FieldKind) (kind : Option Kind) (b : Option Block) (field : ℕ) → IsSome kind → plain_kind k ≡ kind → field_in k b field ≡ word_in b field (default_of kind)
field-same (Some (PlainField x)) kind None field h e = ap default_of e
field-same (Some (PlainField x)) kind (Some block) field h e = ap (λ o. unwrap_or (slice_get block.words field) (default_of o)) e
field-same (Some CellInt) kind b field h e = let k = subst (λ k. IsSome k) (sym e) h in cc
field-same (Some (CellPtr s)) kind b field h e = let k = subst (λ k. IsSome k) (sym e) h in cc
field-same None kind b field h e = let k = subst (λ k. IsSome k) (sym e) h in cc

address-same : (k : Option FieldKind) (kind : Option Kind) (b : Option Block) (w : Word) (field : ℕ) → IsSome kind → address_kind k ≡ kind
    → (if is_cell k && is_some b then place_in w field else NullWord) ≡ (if is_some b then place_in w field else NullWord)
address-same (Some (PlainField x)) kind b w field h e = let k = subst (λ k. IsSome k) (sym e) h in cc
address-same (Some CellInt) kind b w field h e = refl
address-same (Some (CellPtr s)) kind b w field h e = refl
address-same None kind b w field h e = let k = subst (λ k. IsSome k) (sym e) h in cc

module _ (c : Context) (seen : List ℕ) (m : Blocks) (envc : Variables) (env : List Word) where
  -- both have the same word of the variable
  abbrev pub Agrees : ℕ → Type 0
  Agrees v = envc v ≡ variable_of env v

  abbrev cvalue : CodeExpr → Word
  cvalue e = expr_value c.structs (block_at m) envc e

  mutual
    unfolding FormTyped form_mentions form_code form_value

    pub form-same : (kind : Option Kind) (form : TypedForm) → FormTyped c seen kind form → ((v : ℕ) → is_in v (form_mentions form) ≡ true → Agrees v)
        → cvalue (form_code form) ≡ form_value env m kind form
    form-same kind (Num n) t h = value-num c.structs (block_at m) envc n
    form-same kind Null t h = value-null c.structs (block_at m) envc
    form-same kind (Var n) t h = value-var c.structs (block_at m) envc (variable n) ∙ h n (in-first n [])
    form-same kind Own t h = value-null c.structs (block_at m) envc
    form-same kind (Unary' op _ a) t h =
        value-unary c.structs (block_at m) envc op (operand_code a) ∙ ap (unary_value op) (operand-same a t.0 h)
    form-same kind (Binary' op at _ a _ b) t h =
        value-binary c.structs (block_at m) envc op (operand_code a) (operand_code b)
        ∙ ap₂ (binary_value op) (operand-same a t.0 (λ v k. h v (in-left v (operand_mentions a) (operand_mentions b) k)))
        (operand-same b t.1 (λ v k. h v (in-right v (operand_mentions a) (operand_mentions b) k)))
    form-same kind (Field' _ a s field) t h =
        value-field c.structs (block_at m) envc (operand_code a) s field
        ∙ ap (λ w. field_value c.structs (block_at m) w s field) (operand-same a t.0 h)
        ∙ ap (λ b. field_in (field_kind c.structs (Struct s) field) b field) (pointed-same m s (operand_value env m a))
        ∙ field-same (field_kind c.structs (Struct s) field) kind (pointed m s (operand_value env m a)) field t.2 t.3
    form-same kind (Address' _ a s field) t h =
        value-address c.structs (block_at m) envc (operand_code a) s field
        ∙ ap (λ w. address_value c.structs (block_at m) w s field) (operand-same a t.0 h)
        ∙ ap (λ b. if is_cell (field_kind c.structs (Struct s) field) && is_some b then place_in (operand_value env m a) field else NullWord) (pointed-same m s (operand_value env m a))
        ∙ address-same (field_kind c.structs (Struct s) field) kind (pointed m s (operand_value env m a)) (operand_value env m a) field t.2 t.3

    operand-same : {n : _} (row : Row_of-TypedExpr n) → OperandTyped c seen row → ((v : ℕ) → is_in v (operand_mentions row) ≡ true → Agrees v)
        → cvalue (operand_code row) ≡ operand_value env m row
    operand-same end_of-TypedExpr t h = value-null c.structs (block_at m) envc
    operand-same (more_of-TypedExpr span kind form rest) t h = form-same kind form t h

  pub expr-same : (e : TypedExpr) → ExprTyped c seen e → ((v : ℕ) → is_in v (mentions e) ≡ true → Agrees v) → cvalue (expr_code e) ≡ value_of env m e
  expr-same e t h = form-same e.kind e.form t h

  pub exprs-same : (es : List TypedExpr) → All (ExprTyped c seen) es → ((v : ℕ) → is_in v (all_mentions es) ≡ true → Agrees v)
      → values c.structs (block_at m) envc (map expr_code es) ≡ values_of env m es
  unfolding values values_of all_mentions
  exprs-same [] t h = refl
  exprs-same (e ∷ es) t h =
      ap₂ (λ w ws. w ∷ ws) (expr-same e (All-head (ExprTyped c seen) e es t) (λ v k. h v (in-left v (mentions e) (all_mentions es) k)))
      (exprs-same es (All-tail (ExprTyped c seen) e es t) (λ v k. h v (in-right v (mentions e) (all_mentions es) k)))

  -- the argument of a call for a parameter
  pub arg-same : (es : List TypedExpr) → All (ExprTyped c seen) es → ((v : ℕ) → is_in v (all_mentions es) ≡ true → Agrees v) → (i : ℕ)
      → cvalue (arg_at (slice_get es i)) ≡ variable_of (values_of env m es) i
  unfolding values_of all_mentions
  arg-same [] t h i = value-null c.structs (block_at m) envc
  arg-same (e ∷ es) t h zero = expr-same e (All-head (ExprTyped c seen) e es t) (λ v k. h v (in-left v (mentions e) (all_mentions es) k))
  arg-same (e ∷ es) t h (suc i) = arg-same es (All-tail (ExprTyped c seen) e es t) (λ v k. h v (in-right v (mentions e) (all_mentions es) k)) i
