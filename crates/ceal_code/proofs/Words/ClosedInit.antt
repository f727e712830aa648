-- A property of words that passes along blocks passes from a key to the words of the block that is made for it.
use Rattle.std.proofs.Common.{◌≡◌, ℕ, pos, zero, suc, Bool, true, false, Option, Some, None, List, [], ◌∷◌, if◌then◌else◌, refl, ap, ap₂, ◌∙◌, slice_get, slice_set, map}
use Rattle.ceal_base.specs.Access.{holds}
use Rattle.ceal_base.specs.Shapes.{default_of_field, default_block, kinds_of_shape}
use Rattle.ceal_base.specs.declared.forest.Key.{Key}
use Rattle.ceal_base.specs.declared.forest.Key.TheVariants.{Init, ModInt as IntKey, ModPtr as PtrKey}
use Rattle.ceal_base.specs.declared.kind.FieldKind.{FieldKind}
use Rattle.ceal_base.specs.declared.kind.FieldKind.TheVariants.{Plain as PlainField, CellInt, CellPtr}
use Rattle.ceal_base.specs.declared.kind.Shape.TheVariants.{Struct}
use Rattle.ceal_base.specs.declared.typed.StructInfo.{StructInfo}
use Rattle.ceal_base.specs.declared.word.Word.{Word}
use Rattle.ceal_base.specs.declared.word.Word.TheVariants.{Null}
use Rattle.ceal_code.proofs.Words.Closed.{Each, OfKey, Closed, Equal, default-of, get-of, value-of, value-equal}
use Rattle.ceal_code.proofs.Words.PickedRows.{PicksStmt, PicksStmts, PicksBody, PicksFunction, PicksCode}
use Rattle.ceal_code.specs.Init.{set_plain, set_by, set_by_row, set_by_all, arguments, made_by, made}
use Rattle.ceal_code.specs.Program.{Code}
use Rattle.ceal_code.specs.Value.{Plain, Variables, field_kind, expr_value}
use Rattle.ceal_code.specs.declared.expr.CodeExpr.{CodeExpr}
use Rattle.ceal_code.specs.declared.function.FunctionCode.{FunctionCode}
use Rattle.ceal_code.specs.declared.function.FunctionCode.TheVariants.{Core as CoreFunction, Init as InitFunction}
use Rattle.ceal_code.specs.declared.function.InitStmt.{InitStmt, Set, If', Row_of-InitStmt, end_of-InitStmt, more_of-InitStmt}

module _ (W : Word → Type 0) where
  pub put-of : (ws : List Word) (n : ℕ) (w : Word) → Each W ws → W w → Each W (slice_set ws n w)
  put-of [] n w h k = tt
  put-of (v ∷ vs) zero w h k = (k, h.1)
  put-of (v ∷ vs) (suc n) w h k = (h.0, put-of vs n w h.1 k)

  set_plain-of : (kind : Option FieldKind) (ws : List Word) (n : ℕ) (w : Word) → Each W ws → W w → Each W (set_plain kind ws n w)
  set_plain-of None ws n w h k = h
  set_plain-of (Some (PlainField kind)) ws n w h k = put-of ws n w h k
  set_plain-of (Some CellInt) ws n w h k = h
  set_plain-of (Some (CellPtr s)) ws n w h k = h

  if-of : (b : Bool) (vs ws : List Word) → Each W vs → Each W ws → Each W (if b then vs else ws)
  if-of true vs ws h k = h
  if-of false vs ws h k = k

module _ (S : ℕ → CodeExpr → Type 0) (W : Word → Type 0) (structs : List StructInfo) (x : Plain) (closed : Closed structs x S W) where
  defaults-of : (kinds : List FieldKind) → Each W (map default_of_field kinds)
  defaults-of [] = tt
  defaults-of (PlainField kind ∷ kinds) = (default-of W closed.num closed.null kind, defaults-of kinds)
  defaults-of (CellInt ∷ kinds) = (closed.num (pos 0), defaults-of kinds)
  defaults-of (CellPtr s ∷ kinds) = (closed.null, defaults-of kinds)

  arguments-of : (args : List Word) → Each W args → (v : ℕ) → W (arguments args v)
  unfolding arguments
  arguments-of args h v = get-of W closed.num closed.null args v Null h closed.null

  module _ (env : Variables) (all : (v : ℕ) → W (env v)) (s : ℕ) where
    mutual
      unfolding set_by PicksStmt

      set_by-of : (ws : List Word) (stmt : InitStmt) → PicksStmt S stmt → Each W ws → Each W (set_by structs x env s ws stmt)
      set_by-of ws (Set field e) p h =
          set_plain-of W (field_kind structs (Struct s) field) ws field (expr_value structs x env e) h (value-of S W structs x closed env all e p)
      set_by-of ws (If' test _ first _ second) p h =
          if-of W (holds (expr_value structs x env test)) (set_by_row structs x env s ws first) (set_by_row structs x env s ws second) (row-of ws first p.1 h) (row-of ws second p.2 h)

      row-of : (ws : List Word) {n : _} (row : Row_of-InitStmt n) → PicksStmts S row → Each W ws → Each W (set_by_row structs x env s ws row)
      row-of ws end_of-InitStmt p h = h
      row-of ws (more_of-InitStmt stmt rest) p h = row-of (set_by structs x env s ws stmt) rest p.1 (set_by-of ws stmt p.0 h)

    all-of : (ws : List Word) (stmts : List InitStmt) → PicksBody S stmts → Each W ws → Each W (set_by_all structs x env s ws stmts)
    unfolding set_by_all PicksBody
    all-of ws [] p h = h
    all-of ws (stmt ∷ rest) p h = all-of (set_by structs x env s ws stmt) rest p.1 (set_by-of ws stmt p.0 h)

    module _ (y : Plain) (equal : Equal structs x y W) where
      mutual
        unfolding set_by PicksStmt

        set_by-equal : (ws : List Word) (stmt : InitStmt) → PicksStmt S stmt → set_by structs x env s ws stmt ≡ set_by structs y env s ws stmt
        set_by-equal ws (Set field e) p = ap (set_plain (field_kind structs (Struct s) field) ws field) (value-equal S W structs x closed env all y equal e p)
        set_by-equal ws (If' test _ first _ second) p =
            ap (λ w. if holds w then set_by_row structs x env s ws first else set_by_row structs x env s ws second) (value-equal S W structs x closed env all y equal test p.0)
            ∙ ap₂ (λ a b. if holds (expr_value structs y env test) then a else b) (row-equal ws first p.1) (row-equal ws second p.2)

        row-equal : (ws : List Word) {n : _} (row : Row_of-InitStmt n) → PicksStmts S row → set_by_row structs x env s ws row ≡ set_by_row structs y env s ws row
        row-equal ws end_of-InitStmt p = refl
        row-equal ws (more_of-InitStmt stmt rest) p =
            ap (λ vs. set_by_row structs x env s vs rest) (set_by-equal ws stmt p.0) ∙ row-equal (set_by structs y env s ws stmt) rest p.1

      all-equal : (ws : List Word) (stmts : List InitStmt) → PicksBody S stmts → set_by_all structs x env s ws stmts ≡ set_by_all structs y env s ws stmts
      unfolding set_by_all PicksBody
      all-equal ws [] p = refl
      all-equal ws (stmt ∷ rest) p =
          ap (λ vs. set_by_all structs x env s vs rest) (set_by-equal ws stmt p.0) ∙ all-equal (set_by structs y env s ws stmt) rest p.1

module _ (S : ℕ → CodeExpr → Type 0) (W : Word → Type 0) (code : Code) (x : Plain) (closed : Closed code.structs x S W) (picks : PicksCode S code) where
  made_by-of : (args : List Word) (f : Option FunctionCode) → PicksFunction S f → Each W args → Each W (made_by code.structs x args f).words
  made_by-of args (Some (InitFunction name s params body)) p h =
      all-of S W code.structs x closed (arguments args) (arguments-of S W code.structs x closed args h) s (default_block code.structs (Struct s)).words body p
      (defaults-of S W code.structs x closed (kinds_of_shape code.structs (Struct s)))
  made_by-of args (Some (CoreFunction name entry params)) p h = (closed.num (pos 0), tt)
  made_by-of args None p h = (closed.num (pos 0), tt)

  -- the words of a new block have the property that its key has
  pub made-of : (key : Key) → OfKey W key → Each W (made code x key).words
  unfolding made
  made-of (Init f args) h = made_by-of args (slice_get code.functions f) (picks.functions f) h
  made-of IntKey h = (closed.num (pos 0), tt)
  made-of (PtrKey s) h = (closed.null, tt)

  module _ (y : Plain) (equal : Equal code.structs x y W) where
    made_by-equal : (args : List Word) (f : Option FunctionCode) → PicksFunction S f → Each W args → made_by code.structs x args f ≡ made_by code.structs y args f
    made_by-equal args (Some (InitFunction name s params body)) p h =
        ap (λ ws. record { shape = Struct s; words = ws })
        (all-equal S W code.structs x closed (arguments args) (arguments-of S W code.structs x closed args h) s y equal (default_block code.structs (Struct s)).words body p)
    made_by-equal args (Some (CoreFunction name entry params)) p h = refl
    made_by-equal args None p h = refl

    -- and both plain words make the same block
    pub made-equal : (key : Key) → OfKey W key → made code x key ≡ made code y key
    unfolding made
    made-equal (Init f args) h = made_by-equal args (slice_get code.functions f) (picks.functions f) h
    made-equal IntKey h = refl
    made-equal (PtrKey s) h = refl
