-- The statements of an initialiser are right.
use Rattle.std.proofs.Common.{◌≡◌, ℕ, zero, suc, ◌+◌, ◌<◌, ◌≤◌, ◌&&◌, Bool, true, false, Option, Some, None, IfSome}
use Rattle.std.proofs.Common.{MatchOption, List, [], ◌∷◌, ◌++◌, length, take, replicate, slice_get, Contains, All, refl}
use Rattle.std.proofs.Common.{ap, ◌∙◌, subst, arith}
use Rattle.std.proofs.lemmas.List.{length-take-le}
use Rattle.std.proofs.lemmas.List.Elements.{All-head, All-tail}
use Rattle.ceal_base.specs.Usage.{InitUsage, RowInitUsage, WithoutOwn}
use Rattle.ceal_base.specs.WellTyped.{Context, FormTyped, ExprTyped, ExprSuits, StmtTyped, RowTyped, StmtsTyped, seen_after, declarations, plain_kind, numbers_below}
use Rattle.ceal_base.specs.WellTyped as base
use Rattle.ceal_base.specs.declared.kind.FieldKind.{FieldKind}
use Rattle.ceal_base.specs.declared.kind.FieldKind.TheVariants.{Plain as PlainField, CellInt, CellPtr}
use Rattle.ceal_base.specs.declared.kind.Kind.{Kind}
use Rattle.ceal_base.specs.declared.kind.Kind.TheVariants.{Int, Ptr}
use Rattle.ceal_base.specs.declared.kind.Shape.TheVariants.{Struct}
use Rattle.ceal_base.specs.declared.typed.TypedExpr.{TypedExpr}
use Rattle.ceal_base.specs.declared.typed.TypedForm.{TypedForm, Own}
use Rattle.ceal_base.specs.declared.typed.TypedStmt.{TypedStmt, Declare, Assign, SetField, Write, Call, If', While', Return, Break, Continue}
use Rattle.ceal_base.specs.declared.typed.TypedStmt.{Row_of-TypedStmt, end_of-TypedStmt, more_of-TypedStmt}
use Rattle.ceal_code.proofs.Words.SameIsEqual.{both-true}
use Rattle.ceal_code.proofs.Equations.StmtSteps.{stmt-set, stmt-if}
use Rattle.ceal_code.specs.Valid.{Typing, type_of, fits, set_ok, stmt_ok, stmts_ok}
use Rattle.ceal_code.specs.Value.{field_kind}
use Rattle.ceal_code.specs.declared.function.InitStmt.{InitStmt}
use Rattle.ceal_norm.specs.Expressions.{expr_code, init_code, row_init_code, all_init_code}
use Rattle.ceal_norm.proofs.Validity.ExpressionTypes.{type_for, Has, form-seen, form-type, suits-fits}
use Rattle.ceal_norm.proofs.Validity.KnownVariables.{there, Knows}
use Rattle.ceal_norm.proofs.Validity.RightCommands.{numbers-less, get-take}
use Rattle.ceal_norm.proofs.Validity.LiveVariablesInScope.{match}

knows-all : (n v : ℕ) → v < n → Knows (replicate n true) v
knows-all zero v l = absurd (omega (arith, l))
knows-all (suc n) zero l = refl
knows-all (suc n) (suc v) l = knows-all n v (omega (arith, l))

init-seen : (s : TypedStmt) (seen : List ℕ) → InitUsage s → seen_after seen s ≡ seen
unfolding InitUsage
init-seen (Declare at n kind value) seen u = absurd u
init-seen (Assign at n value) seen u = absurd u
init-seen (SetField at left k field e) seen u = refl
init-seen (Write at place e) seen u = absurd u
init-seen (Call at f args) seen u = absurd u
init-seen (If' at test _ first _ second) seen u = refl
init-seen (While' at test _ body) seen u = absurd u
init-seen (Return at) seen u = absurd u
init-seen (Break at) seen u = absurd u
init-seen (Continue at) seen u = absurd u

own-kind : (c : Context) (seen : List ℕ) (kind : Option Kind) (s : ℕ) → c.own ≡ Some s → FormTyped c seen kind Own → kind ≡ Some (Ptr s)
unfolding FormTyped
own-kind c seen kind s o h = subst (λ x. IfSome x (λ r. kind ≡ Some (Ptr r))) o h.0

own-form : (c : Context) (seen : List ℕ) (kind : Option Kind) (form : TypedForm) (s : ℕ) → form ≡ Own → c.own ≡ Some s → FormTyped c seen kind form → kind ≡ Some (Ptr s)
own-form c seen kind form s e o t = own-kind c seen kind s o (subst (λ x. FormTyped c seen kind x) e t)

-- a field that is plain takes a value of its kind
set-plain : (k : Option FieldKind) (kind : Kind) (t : Typing) → plain_kind k ≡ Some kind → fits kind t ≡ true → set_ok k t ≡ true
set-plain (Some (PlainField x)) kind t e h = let same : x ≡ kind = cc in rw same h
set-plain (Some CellInt) kind t e h = cc
set-plain (Some (CellPtr s)) kind t e h = cc
set-plain None kind t e h = cc

module _ (c : Context) (s params : ℕ) (own : c.own ≡ Some s) (few : params ≤ length c.kinds) where
  abbrev kinds : List Kind
  kinds = take params c.kinds

  abbrev known : List Bool
  known = replicate (length (take params c.kinds)) true

  abbrev seen : List ℕ
  seen = numbers_below params

  has : (v : ℕ) → Contains seen v → Has c seen kinds known v
  has v h =
      let less = numbers-less params v h in
      let long : length kinds ≡ params = length-take-le params c.kinds few in
      let t = there c.kinds v (omega (arith, less, few)) in
      let here : slice_get kinds v ≡ Some t.item = get-take params c.kinds v less ∙ t.is in
      rw (here, knows-all (length kinds) v (omega (arith, less, long)), t.is) refl

  expr-is : (e : TypedExpr) → ExprTyped c seen e → WithoutOwn e.form → type_of c.structs kinds known (expr_code e) ≡ Some (type_for e.kind)
  expr-is e t w = form-type c seen kinds known e.kind e.form t w (λ v i. has v (form-seen c seen e.kind e.form t v i).0)

  abbrev Right : List InitStmt → Type 0
  Right xs = stmts_ok c.structs kinds known s xs ≡ true

  right-cons : (x : InitStmt) → stmt_ok c.structs kinds known s x ≡ true → Right (x ∷ [])
  unfolding stmts_ok
  right-cons x h = both-true _ _ h refl

  right-append-if : (b : Bool) (xs ys : List InitStmt) → (b && stmts_ok c.structs kinds known s xs) ≡ true → (Right xs → Right (xs ++ ys))
      → (b && stmts_ok c.structs kinds known s (xs ++ ys)) ≡ true
  right-append-if true xs ys h k = k h
  right-append-if false xs ys h k = h

  right-append : (xs ys : List InitStmt) → Right xs → Right ys → Right (xs ++ ys)
  unfolding stmts_ok
  right-append [] ys h k = k
  right-append (x ∷ xs) ys h k = right-append-if (stmt_ok c.structs kinds known s x) xs ys h (λ m. right-append xs ys m k)

  none-right : Right []
  unfolding stmts_ok
  none-right = refl

  set-right : (left e : TypedExpr) (j field : ℕ) → ExprTyped c seen left → left.kind ≡ Some (Ptr j) → left.form ≡ Own → WithoutOwn e.form
      → MatchOption (plain_kind (base.field_kind c.structs j field)) ⊥ (λ kind. ExprSuits c seen kind e)
      → set_ok (field_kind c.structs (Struct s) field) (type_of c.structs kinds known (expr_code e)) ≡ true
  set-right left e j field t k form w h =
      let is : left.kind ≡ Some (Ptr s) = own-form c seen left.kind left.form s form own t in
      let same : j ≡ s = cc in
      let m = match (plain_kind (base.field_kind c.structs j field)) (λ kind. ExprSuits c seen kind e) h in
      let plain : plain_kind (field_kind c.structs (Struct s) field) ≡ Some m.item = subst (λ z. plain_kind (base.field_kind c.structs z field) ≡ Some m.item) same m.is in
      set-plain (field_kind c.structs (Struct s) field) m.item (type_of c.structs kinds known (expr_code e)) plain
      (ap (fits m.item) (expr-is e m.holds.0 w) ∙ suits-fits m.item e.kind m.holds.1)

  mutual
    unfolding InitUsage StmtTyped init_code

    stmt-right : (next : ℕ) (x : TypedStmt) → InitUsage x → StmtTyped c seen next x → Right (init_code x)
    stmt-right next (Declare at n kind value) u t = absurd u
    stmt-right next (Assign at n value) u t = absurd u
    stmt-right next (SetField at left j field e) u t =
        right-cons _ (stmt-set c.structs kinds known s field (expr_code e) ∙ set-right left e j field t.0 t.1 u.0 u.1 t.2)
    stmt-right next (Write at place e) u t = absurd u
    stmt-right next (Call at f args) u t = absurd u
    stmt-right next (If' at test _ first _ second) u t =
        right-cons _ (stmt-if c.structs kinds known s (expr_code test) (row_init_code first) (row_init_code second)
        ∙ both-true _ _ (ap (fits Int) (expr-is test t.0 u.0 ∙ ap (λ k. Some (type_for k)) t.1)) (both-true _ _ (row-right next first u.1 t.2) (row-right _ second u.2 t.3)))
    stmt-right next (While' at test _ body) u t = absurd u
    stmt-right next (Return at) u t = absurd u
    stmt-right next (Break at) u t = absurd u
    stmt-right next (Continue at) u t = absurd u

    row-right : (next : ℕ) {n : _} (row : Row_of-TypedStmt n) → RowInitUsage row → RowTyped c seen next row → Right (row_init_code row)
    row-right next end_of-TypedStmt u t = none-right
    row-right next (more_of-TypedStmt x rest) u t =
        right-append (init_code x) (row_init_code rest) (stmt-right next x u.0 t.0)
        (row-right (next + declarations x) rest u.1 (subst (λ z. RowTyped c z (next + declarations x) rest) (init-seen x seen u.0) t.1))

  pub body-right : (next : ℕ) (body : List TypedStmt) → All InitUsage body → StmtsTyped c seen next body → Right (all_init_code body)
  unfolding StmtsTyped all_init_code
  body-right next [] u t = none-right
  body-right next (x ∷ rest) u t =
      let here = All-head InitUsage x rest u in
      right-append (init_code x) (all_init_code rest) (stmt-right next x here t.0)
      (body-right (next + declarations x) rest (All-tail InitUsage x rest u) (subst (λ z. StmtsTyped c z (next + declarations x) rest) (init-seen x seen here) t.1))
