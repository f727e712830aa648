-- An initialiser of trace code makes the block that the program's makes.
use Rattle.std.proofs.Common.{◌≡◌, ℕ, ◌+◌, Bool, Option, Some, None, IfSome, MatchOption, if◌then◌else◌, List, [], ◌∷◌, ◌++◌, slice_set, All, refl, sym, ap, ◌∙◌, subst}
use Rattle.std.proofs.lemmas.List.Elements.{All-head, All-tail}
use Rattle.ceal_base.specs.Access.{holds}
use Rattle.ceal_base.specs.Block.{Blocks, block_at}
use Rattle.ceal_base.specs.Usage.{InitUsage, RowInitUsage}
use Rattle.ceal_base.specs.WellTyped.{Context, FormTyped, ExprSuits, StmtTyped, RowTyped, StmtsTyped, seen_after, declarations, plain_kind}
use Rattle.ceal_base.specs.declared.kind.FieldKind.{FieldKind}
use Rattle.ceal_base.specs.declared.kind.FieldKind.TheVariants.{Plain as PlainField, CellInt, CellPtr}
use Rattle.ceal_base.specs.declared.kind.Kind.{Kind}
use Rattle.ceal_base.specs.declared.kind.Kind.TheVariants.{Ptr}
use Rattle.ceal_base.specs.declared.kind.Shape.TheVariants.{Struct}
use Rattle.ceal_base.specs.declared.typed.StructInfo.{StructInfo}
use Rattle.ceal_base.specs.declared.typed.TypedForm.{TypedForm, Own}
use Rattle.ceal_base.specs.declared.typed.TypedStmt.{TypedStmt, Declare, Assign, SetField, Write, Call, If', While', Return, Break, Continue, Row_of-TypedStmt, end_of-TypedStmt, more_of-TypedStmt}
use Rattle.ceal_base.specs.declared.word.Word.{Word}
use Rattle.ceal_code.specs.Init.{set_plain, set_by as code_set_by, set_by_row as code_set_by_row, set_by_all as code_set_by_all}
use Rattle.ceal_code.specs.Value.{Plain, Variables, field_kind as code_field_kind, expr_value}
use Rattle.ceal_code.specs.declared.expr.CodeExpr.{CodeExpr}
use Rattle.ceal_code.specs.declared.function.InitStmt.{InitStmt}
use Rattle.ceal_code.specs.declared.function.InitStmt.TheBlock.{hidden-the_row-InitStmt-0, shape-the_row-InitStmt-0}
use Rattle.ceal_code.specs.declared.function.InitStmt.TheVariants.{Set}
use Rattle.ceal_code.specs.declared.function.InitStmt.TheViews as init
use Rattle.ceal_mean.specs.Init.{set_by, set_by_row, set_by_all}
use Rattle.ceal_mean.specs.Value.{variable_of}
use Rattle.ceal_norm.specs.Expressions.{expr_code, init_code, row_init_code, all_init_code}
use Rattle.ceal_norm.proofs.Validity.LiveVariablesInScope.{match}
use Rattle.ceal_norm.proofs.Runs.SameValues.{expr-same}

module _ (structs : List StructInfo) (x : Plain) (env : Variables) (s : ℕ) where
  abbrev after_all : List Word → List InitStmt → List Word
  after_all words stmts = code_set_by_all structs x env s words stmts

  row-all : (words : List Word) (xs : List InitStmt) → code_set_by_row structs x env s words (hidden-the_row-InitStmt-0 xs) ≡ after_all words xs
  unfolding code_set_by code_set_by_all hidden-the_row-InitStmt-0 shape-the_row-InitStmt-0 denote.Hole.Carrier.hidden
  row-all words [] = refl
  row-all words (y ∷ ys) = row-all (code_set_by structs x env s words y) ys

  if-all : (words : List Word) (test : CodeExpr) (first second : List InitStmt)
      → after_all words (init.If test first second ∷ []) ≡ (if holds (expr_value structs x env test) then after_all words first else after_all words second)
  unfolding code_set_by code_set_by_all
  if-all words test first second = rw (← row-all words first, ← row-all words second) refl

  set-one : (words : List Word) (field : ℕ) (e : CodeExpr)
      → after_all words (Set field e ∷ []) ≡ set_plain (code_field_kind structs (Struct s) field) words field (expr_value structs x env e)
  unfolding code_set_by code_set_by_all
  set-one words field e = refl

  pub all-append : (words : List Word) (xs ys : List InitStmt) → after_all words (xs ++ ys) ≡ after_all (after_all words xs) ys
  unfolding code_set_by_all
  all-append words [] ys = refl
  all-append words (y ∷ xs) ys = all-append (code_set_by structs x env s words y) xs ys

  all-none : (words : List Word) → after_all words [] ≡ words
  unfolding code_set_by_all
  all-none words = refl

set-plain : (k : Option FieldKind) (P : Kind → Type 0) (words : List Word) (field : ℕ) (w : Word) → MatchOption (plain_kind k) ⊥ P → set_plain k words field w ≡ slice_set words field w
set-plain None P words field w h = absurd h
set-plain (Some (PlainField kind)) P words field w h = refl
set-plain (Some CellInt) P words field w h = absurd h
set-plain (Some (CellPtr t)) P words field w h = absurd h

chosen-same : (b c : Bool) (v w v' w' : List Word) → b ≡ c → v ≡ v' → w ≡ w' → (if b then v else w) ≡ (if c then v' else w')
chosen-same b c v w v' w' e h k = rw (e, h, k) refl

module _ (c : Context) (s : ℕ) (own : c.own ≡ Some s) (m : Blocks) (envc : Variables) (env : List Word) (agrees : (v : ℕ) → envc v ≡ variable_of env v) where
  abbrev code_after : List Word → List InitStmt → List Word
  code_after words stmts = code_set_by_all c.structs (block_at m) envc s words stmts

  -- `self` points to a block of the initialiser's struct
  own-struct : (seen : List ℕ) (kind : Option Kind) (form : TypedForm) (t : ℕ) → FormTyped c seen kind form → form ≡ Own → kind ≡ Some (Ptr t) → t ≡ s
  unfolding FormTyped
  own-struct seen kind form t typed e k =
      let here : FormTyped c seen kind Own = subst (λ f. FormTyped c seen kind f) e typed in
      let is : kind ≡ Some (Ptr s) = subst (λ o. IfSome o (λ s. kind ≡ Some (Ptr s))) own here.0 in
      let both : Some (Ptr t) ≡ Some (Ptr s) = sym k ∙ is in cc both

  mutual
    unfolding StmtTyped InitUsage init_code set_by

    stmt-init : (st : TypedStmt) (seen : List ℕ) (next : ℕ) → StmtTyped c seen next st → InitUsage st → (words : List Word)
        → code_after words (init_code st) ≡ set_by env m words st
    stmt-init (SetField at left t field e) seen next typed usage words =
        let k = match (plain_kind (code_field_kind c.structs (Struct t) field)) (λ kind. ExprSuits c seen kind e) typed.2 in
        let same : t ≡ s = own-struct seen left.kind left.form t typed.0 usage.0 typed.1 in
        let plain : MatchOption (plain_kind (code_field_kind c.structs (Struct s) field)) ⊥ (λ kind. ExprSuits c seen kind e) =
        subst (λ u. MatchOption (plain_kind (code_field_kind c.structs (Struct u) field)) ⊥ (λ kind. ExprSuits c seen kind e)) same typed.2 in
        set-one c.structs (block_at m) envc s words field (expr_code e)
        ∙ set-plain (code_field_kind c.structs (Struct s) field) (λ kind. ExprSuits c seen kind e) words field _ plain
        ∙ ap (slice_set words field) (expr-same c seen m envc env e k.holds.0 (λ v h. agrees v))
    stmt-init (If' at test _ first _ second) seen next typed usage words =
        if-all c.structs (block_at m) envc s words (expr_code test) (row_init_code first) (row_init_code second)
        ∙ chosen-same _ _ _ _ _ _ (ap holds (expr-same c seen m envc env test typed.0 (λ v h. agrees v)))
        (row-init first seen next typed.2 usage.1 words) (row-init second seen _ typed.3 usage.2 words)
    stmt-init (Declare at n kind value) seen next typed usage words = absurd usage
    stmt-init (Assign at n value) seen next typed usage words = absurd usage
    stmt-init (Write at place e) seen next typed usage words = absurd usage
    stmt-init (Call at f args) seen next typed usage words = absurd usage
    stmt-init (While' at test _ body) seen next typed usage words = absurd usage
    stmt-init (Return at) seen next typed usage words = absurd usage
    stmt-init (Break at) seen next typed usage words = absurd usage
    stmt-init (Continue at) seen next typed usage words = absurd usage

    row-init : {n : _} (row : Row_of-TypedStmt n) (seen : List ℕ) (next : ℕ) → RowTyped c seen next row → RowInitUsage row → (words : List Word)
        → code_after words (row_init_code row) ≡ set_by_row env m words row
    row-init end_of-TypedStmt seen next typed usage words = all-none c.structs (block_at m) envc s words
    row-init (more_of-TypedStmt st rest) seen next typed usage words =
        all-append c.structs (block_at m) envc s words (init_code st) (row_init_code rest)
        ∙ ap (λ ws. code_after ws (row_init_code rest)) (stmt-init st seen next typed.0 usage.0 words)
        ∙ row-init rest (seen_after seen st) (next + declarations st) typed.1 usage.1 (set_by env m words st)

  pub all-init : (body : List TypedStmt) (seen : List ℕ) (next : ℕ) → StmtsTyped c seen next body → All InitUsage body → (words : List Word)
      → code_after words (all_init_code body) ≡ set_by_all env m words body
  unfolding StmtsTyped all_init_code set_by_all
  all-init [] seen next typed usage words = all-none c.structs (block_at m) envc s words
  all-init (st ∷ rest) seen next typed usage words =
      all-append c.structs (block_at m) envc s words (init_code st) (all_init_code rest)
      ∙ ap (λ ws. code_after ws (all_init_code rest)) (stmt-init st seen next typed.0 (All-head InitUsage st rest usage) words)
      ∙ all-init rest (seen_after seen st) (next + declarations st) typed.1 (All-tail InitUsage st rest usage) (set_by env m words st)
