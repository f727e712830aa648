-- A folded expression gives the same word where the copies hold, and so it does where the variables that it mentions
-- have the same words.
use Rattle.std.proofs.Common.{◌≡◌, ℕ, ◌==◌, ◌||◌, ◌&&◌, Bool, true, false, if◌then◌else◌, Option, Some, None, List, [], ◌∷◌, refl, sym, ap, ap₂, ◌∙◌, subst, arith}
use Rattle.std.specs.Prelude.{⊤}
use Rattle.ceal_base.specs.Operators.{unary_value, binary_value, picked_element, truth}
use Rattle.ceal_base.specs.declared.kind.FieldKind.{FieldKind}
use Rattle.ceal_base.specs.declared.kind.FieldKind.TheVariants.{Plain as PlainField, CellInt, CellPtr}
use Rattle.ceal_base.specs.declared.kind.Kind.TheVariants.{Int, Ptr, ModInt, ModPtr}
use Rattle.ceal_base.specs.declared.kind.Shape.TheVariants.{Struct}
use Rattle.ceal_base.specs.declared.operators.Binary.{Binary as BinaryOp}
use Rattle.ceal_base.specs.declared.operators.Binary.TheVariants.{Add, Sub, Mul, Div, Rem, Less, LessEq, More, MoreEq, Same, Differ, And, Or, Pick}
use Rattle.ceal_base.specs.declared.operators.Unary.{Unary as UnaryOp}
use Rattle.ceal_base.specs.declared.operators.Unary.TheVariants.{Neg, Not}
use Rattle.ceal_base.specs.declared.typed.StructInfo.{StructInfo}
use Rattle.ceal_base.specs.declared.word.Word.{Word}
use Rattle.ceal_base.specs.declared.word.Word.TheVariants.{Num, Null, Block as BlockWord, At}
use Rattle.ceal_code.proofs.Words.SameIsEqual.{nat-same, some-same, none-some}
use Rattle.ceal_code.specs.Value.{Plain, Variables, set, field_kind, is_cell, field_default, field_value, address_value, expr_value, operand_value, values}
use Rattle.ceal_code.specs.declared.expr.CodeExpr.{CodeExpr, Num as NumExpr, Null as NullExpr, Var, Unary', Binary', Field', Address', Row_of-CodeExpr, end_of-CodeExpr, more_of-CodeExpr}
use Rattle.ceal_code.specs.declared.expr.CodeExpr.TheBlock.{hidden-the_row-CodeExpr-0, shape-the_row-CodeExpr-0}
use Rattle.ceal_code.specs.declared.expr.CodeExpr.TheViews.{Unary, Binary, Field, Address}
use Rattle.ceal_code.specs.declared.expr.VarId.{VarId}
use Rattle.ceal_fold.specs.Folding.{Copies, no_copies, use_of, constant, constant_expr, is_null, unary_folded}
use Rattle.ceal_fold.specs.Folding.{binary_folded, folded_expr, folded_operand, folded_exprs, copy_by, copy_without}
use Rattle.ceal_fold.specs.Folding.{copies_with, mentions, operand_mentions, all_mention}
use Rattle.ceal_fold.specs.declared.copies.Copied.{Copied}
use Rattle.ceal_fold.specs.declared.copies.Copied.TheVariants.{Num as CopiedNum, Null as CopiedNull, Var as CopiedVar}

-- a word that is what the copy says
abbrev pub CopyHolds : Variables → Word → Option Copied → Type 0
CopyHolds env word None = ⊤
CopyHolds env word (Some (CopiedNum n)) = word ≡ Num n
CopyHolds env word (Some CopiedNull) = word ≡ Null
CopyHolds env word (Some (CopiedVar w)) = word ≡ env w.0

abbrev pub Holds : Copies → Variables → Type 0
Holds known env = (v : ℕ) → CopyHolds env (env v) (known v)

pub holds-none : (env : Variables) → Holds no_copies env
unfolding no_copies
holds-none env v = tt

module _ (structs : List StructInfo) (x : Plain) where
  module _ (env : Variables) where
    value-unary : (op : UnaryOp) (a : CodeExpr) → expr_value structs x env (Unary op a) ≡ unary_value op (expr_value structs x env a)
    unfolding expr_value hidden-the_row-CodeExpr-0 shape-the_row-CodeExpr-0 denote.Hole.Carrier.hidden
    value-unary op a = refl

    value-binary : (op : BinaryOp) (a b : CodeExpr) → expr_value structs x env (Binary op a b) ≡ binary_value op (expr_value structs x env a) (expr_value structs x env b)
    unfolding expr_value hidden-the_row-CodeExpr-0 shape-the_row-CodeExpr-0 denote.Hole.Carrier.hidden
    value-binary op a b = refl

    value-field : (a : CodeExpr) (s f : ℕ) → expr_value structs x env (Field a s f) ≡ field_value structs x (expr_value structs x env a) s f
    unfolding expr_value hidden-the_row-CodeExpr-0 shape-the_row-CodeExpr-0 denote.Hole.Carrier.hidden
    value-field a s f = refl

    value-address : (a : CodeExpr) (s f : ℕ) → expr_value structs x env (Address a s f) ≡ address_value structs x (expr_value structs x env a) s f
    unfolding expr_value hidden-the_row-CodeExpr-0 shape-the_row-CodeExpr-0 denote.Hole.Carrier.hidden
    value-address a s f = refl

    -- a constant gives its word
    constant-value : (a : CodeExpr) (w : Word) → constant a ≡ Some w → expr_value structs x env a ≡ w
    unfolding expr_value
    constant-value (NumExpr n) w e = some-same (Num n) w e
    constant-value NullExpr w e = some-same Null w e
    constant-value (Var v) w e = none-some w e
    constant-value (Unary' op _ a) w e = none-some w e
    constant-value (Binary' op _ a _ b) w e = none-some w e
    constant-value (Field' _ a s f) w e = none-some w e
    constant-value (Address' _ a s f) w e = none-some w e

    -- numbers and null are constants
    abbrev Plainly : Word → Type 0
    Plainly (Num n) = ⊤
    Plainly Null = ⊤
    Plainly (BlockWord b) = ⊥
    Plainly (At p) = ⊥

    constant-of : (w : Word) → Plainly w → expr_value structs x env (constant_expr w) ≡ w
    unfolding expr_value
    constant-of (Num n) h = refl
    constant-of Null h = refl
    constant-of (BlockWord b) h = absurd h
    constant-of (At p) h = absurd h

    truth-plain : (b : Bool) → Plainly (truth b)
    truth-plain true = tt
    truth-plain false = tt

    unary-plain : (op : UnaryOp) (w : Word) → Plainly (unary_value op w)
    unary-plain Neg w = tt
    unary-plain Not w = truth-plain _

    constant-plain : (a : CodeExpr) (w : Word) → constant a ≡ Some w → Plainly w
    constant-plain (NumExpr n) w e = subst Plainly (some-same (Num n) w e) tt
    constant-plain NullExpr w e = subst Plainly (some-same Null w e) tt
    constant-plain (Var v) w e = none-some w e
    constant-plain (Unary' op _ a) w e = none-some w e
    constant-plain (Binary' op _ a _ b) w e = none-some w e
    constant-plain (Field' _ a s f) w e = none-some w e
    constant-plain (Address' _ a s f) w e = none-some w e

    picked-plain : (row : ℕ) (v w : Word) → Plainly v → Plainly (picked_element row v w)
    picked-plain row (Num n) w p = tt
    picked-plain row Null w p = tt
    picked-plain row (BlockWord b) w p = tt
    picked-plain row (At q) w p = absurd p

    binary-plain : (op : BinaryOp) (v w : Word) → Plainly v → Plainly (binary_value op v w)
    binary-plain Add v w p = tt
    binary-plain Sub v w p = tt
    binary-plain Mul v w p = tt
    binary-plain Div v w p = tt
    binary-plain Rem v w p = tt
    binary-plain Less v w p = truth-plain _
    binary-plain LessEq v w p = truth-plain _
    binary-plain More v w p = truth-plain _
    binary-plain MoreEq v w p = truth-plain _
    binary-plain Same v w p = truth-plain _
    binary-plain Differ v w p = truth-plain _
    binary-plain And v w p = truth-plain _
    binary-plain Or v w p = truth-plain _
    binary-plain (Pick row) v w p = picked-plain row v w p

    default-plain : (k : Option FieldKind) → Plainly (field_default k)
    default-plain None = tt
    default-plain (Some (PlainField Int)) = tt
    default-plain (Some (PlainField (Ptr s))) = tt
    default-plain (Some (PlainField ModInt)) = tt
    default-plain (Some (PlainField (ModPtr s))) = tt
    default-plain (Some CellInt) = tt
    default-plain (Some (CellPtr s)) = tt

    unary-same : (op : UnaryOp) (a : CodeExpr) (o : Option Word) → constant a ≡ o → expr_value structs x env (unary_folded op a o) ≡ unary_value op (expr_value structs x env a)
    unary-same op a None e = value-unary op a
    unary-same op a (Some w) e = constant-of (unary_value op w) (unary-plain op w) ∙ ap (unary_value op) (sym (constant-value a w e))

    binary-same : (op : BinaryOp) (a b : CodeExpr) (o p : Option Word) → constant a ≡ o → constant b ≡ p
        → expr_value structs x env (binary_folded op a b o p) ≡ binary_value op (expr_value structs x env a) (expr_value structs x env b)
    binary-same op a b None p e f = value-binary op a b
    binary-same op a b (Some v) None e f = value-binary op a b
    binary-same op a b (Some v) (Some w) e f =
        constant-of (binary_value op v w) (binary-plain op v w (constant-plain a v e)) ∙ ap₂ (binary_value op) (sym (constant-value a v e)) (sym (constant-value b w f))

    null-is : (a : CodeExpr) → is_null a ≡ true → a ≡ NullExpr
    null-is (NumExpr n) e = absurd (grind (arith, e))
    null-is NullExpr e = refl
    null-is (Var v) e = absurd (grind (arith, e))
    null-is (Unary' op _ a) e = absurd (grind (arith, e))
    null-is (Binary' op _ a _ b) e = absurd (grind (arith, e))
    null-is (Field' _ a s f) e = absurd (grind (arith, e))
    null-is (Address' _ a s f) e = absurd (grind (arith, e))

    null-value : (a : CodeExpr) → is_null a ≡ true → expr_value structs x env a ≡ Null
    unfolding expr_value
    null-value a e = rw (null-is a e) refl

    field-same : (a : CodeExpr) (s f : ℕ) (b : Bool) → is_null a ≡ b
        → expr_value structs x env (if b then constant_expr (field_default (field_kind structs (Struct s) f)) else Field a s f) ≡ field_value structs x (expr_value structs x env a) s f
    field-same a s f true e =
        constant-of (field_default (field_kind structs (Struct s) f)) (default-plain (field_kind structs (Struct s) f)) ∙ rw (null-value a e) refl
    field-same a s f false e = value-field a s f

    null-address : (b : Bool) → Null ≡ (if b && false then Null else Null)
    null-address true = refl
    null-address false = refl

    address-same : (a : CodeExpr) (s f : ℕ) (b : Bool) → is_null a ≡ b
        → expr_value structs x env (if b then NullExpr else Address a s f) ≡ address_value structs x (expr_value structs x env a) s f
    unfolding expr_value
    address-same a s f true e = rw (null-value a e) (null-address (is_cell (field_kind structs (Struct s) f)))
    address-same a s f false e = value-address a s f

    module _ (known : Copies) (holds : Holds known env) where
      use-same : (v : VarId) (o : Option Copied) → CopyHolds env (env v.0) o → expr_value structs x env (use_of v o) ≡ env v.0
      unfolding expr_value
      use-same v None h = refl
      use-same v (Some (CopiedNum n)) h = sym h
      use-same v (Some CopiedNull) h = sym h
      use-same v (Some (CopiedVar w)) h = sym h

      mutual
        unfolding expr_value folded_expr

        pub value-folded : (e : CodeExpr) → expr_value structs x env (folded_expr structs known e) ≡ expr_value structs x env e
        value-folded (NumExpr n) = refl
        value-folded NullExpr = refl
        value-folded (Var v) = use-same v (known v.0) (holds v.0)
        value-folded (Unary' op _ a) = unary-same op (folded_operand structs known a) (constant (folded_operand structs known a)) refl ∙ ap (unary_value op) (operand-folded a)
        value-folded (Binary' op _ a _ b) =
            binary-same op (folded_operand structs known a) (folded_operand structs known b) (constant (folded_operand structs known a)) (constant (folded_operand structs known b)) refl refl
            ∙ ap₂ (binary_value op) (operand-folded a) (operand-folded b)
        value-folded (Field' _ a s f) =
            field-same (folded_operand structs known a) s f (is_null (folded_operand structs known a)) refl ∙ ap (λ w. field_value structs x w s f) (operand-folded a)
        value-folded (Address' _ a s f) =
            address-same (folded_operand structs known a) s f (is_null (folded_operand structs known a)) refl ∙ ap (λ w. address_value structs x w s f) (operand-folded a)

        operand-folded : {n : _} (row : Row_of-CodeExpr n) → expr_value structs x env (folded_operand structs known row) ≡ operand_value structs x env row
        operand-folded end_of-CodeExpr = refl
        operand-folded (more_of-CodeExpr e rest) = value-folded e

      pub values-folded : (es : List CodeExpr) → values structs x env (folded_exprs structs known es) ≡ values structs x env es
      unfolding values folded_exprs
      values-folded [] = refl
      values-folded (e ∷ es) = ap₂ (λ w ws. w ∷ ws) (value-folded e) (values-folded es)

  module _ (env env' : Variables) where
    or-left : (a b : Bool) → a ≡ true → (a || b) ≡ true
    or-left a b h = rw h refl

    or-right : (a b : Bool) → b ≡ true → (a || b) ≡ true
    or-right true b h = refl
    or-right false b h = h

    abbrev pub SameWhere : (ℕ → Bool) → Type 0
    SameWhere used = (v : ℕ) → used v ≡ true → env' v ≡ env v

    mutual
      unfolding expr_value mentions

      pub value-mentioned : (e : CodeExpr) → SameWhere (mentions e) → expr_value structs x env' e ≡ expr_value structs x env e
      value-mentioned (NumExpr n) h = refl
      value-mentioned NullExpr h = refl
      value-mentioned (Var v) h = let s : (v.0 == v.0) ≡ true = grind arith in h v.0 s
      value-mentioned (Unary' op _ a) h = ap (unary_value op) (operand-mentioned a h)
      value-mentioned (Binary' op _ a _ b) h =
          ap₂ (binary_value op) (operand-mentioned a (λ v m. h v (or-left (operand_mentions a v) (operand_mentions b v) m)))
          (operand-mentioned b (λ v m. h v (or-right (operand_mentions a v) (operand_mentions b v) m)))
      value-mentioned (Field' _ a s f) h = ap (λ w. field_value structs x w s f) (operand-mentioned a h)
      value-mentioned (Address' _ a s f) h = ap (λ w. address_value structs x w s f) (operand-mentioned a h)

      operand-mentioned : {n : _} (row : Row_of-CodeExpr n) → SameWhere (operand_mentions row) → operand_value structs x env' row ≡ operand_value structs x env row
      operand-mentioned end_of-CodeExpr h = refl
      operand-mentioned (more_of-CodeExpr e rest) h = value-mentioned e h

    pub values-mentioned : (es : List CodeExpr) → SameWhere (all_mention es) → values structs x env' es ≡ values structs x env es
    unfolding values all_mention
    values-mentioned [] h = refl
    values-mentioned (e ∷ es) h =
        ap₂ (λ w ws. w ∷ ws) (value-mentioned e (λ v m. h v (or-left (mentions e v) (all_mention es v) m)))
        (values-mentioned es (λ v m. h v (or-right (mentions e v) (all_mention es v) m)))

-- after an assignment
set-same : (env : Variables) (v : ℕ) (word : Word) → set env v word v ≡ word
unfolding set
set-same env v word = let e : (v == v) ≡ true = grind arith in rw e refl

pub set-other : (env : Variables) (v u : ℕ) (word : Word) → (u == v) ≡ false → set env v word u ≡ env u
unfolding set
set-other env v u word e = rw e refl

pub holds-set : (known : Copies) (env : Variables) (v : ℕ) (word : Word) (copy : Option Copied) → Holds known env
    → CopyHolds (set env v word) word copy → Holds (copies_with known v copy) (set env v word)
unfolding copies_with
holds-set known env v word copy h k u = go (u == v) refl
  where
    left : (u == v) ≡ false → (o : Option Copied) → CopyHolds env (env u) o → CopyHolds (set env v word) (set env v word u) (copy_without v o)
    left e None h = tt
    left e (Some (CopiedNum n)) h = set-other env v u word e ∙ h
    left e (Some CopiedNull) h = set-other env v u word e ∙ h
    left e (Some (CopiedVar w)) h = apart (w.0 == v) refl
      where
        apart : (b : Bool) → (w.0 == v) ≡ b → CopyHolds (set env v word) (set env v word u) (if b then None else Some (CopiedVar w))
        apart true f = tt
        apart false f = set-other env v u word e ∙ h ∙ sym (set-other env v w.0 word f)

    go : (b : Bool) → (u == v) ≡ b → CopyHolds (set env v word) (set env v word u) (if b then copy else copy_without v (known u))
    go true e =
        let i : u ≡ v = nat-same u v e in
        subst (λ w. CopyHolds (set env v word) w copy) (sym (ap (set env v word) i ∙ set-same env v word)) k
    go false e = left e (known u) (h u)

-- a move makes its variable a copy of what its expression is
pub move-holds : (structs : List StructInfo) (x : Plain) (env : Variables) (v : ℕ) (e : CodeExpr) → CopyHolds (set env v (expr_value structs x env e)) (expr_value structs x env e) (copy_by v e)
unfolding expr_value
move-holds structs x env v (NumExpr n) = refl
move-holds structs x env v NullExpr = refl
move-holds structs x env v (Var w) = go (w.0 == v) refl
  where
    go : (b : Bool) → (w.0 == v) ≡ b → CopyHolds (set env v (env w.0)) (env w.0) (if b then None else Some (CopiedVar w))
    go true e = tt
    go false e = sym (set-other env v w.0 (env w.0) e)
move-holds structs x env v (Unary' op _ a) = tt
move-holds structs x env v (Binary' op _ a _ b) = tt
move-holds structs x env v (Field' _ a s f) = tt
move-holds structs x env v (Address' _ a s f) = tt
