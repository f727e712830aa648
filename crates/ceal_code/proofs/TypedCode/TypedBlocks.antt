-- What valid code says of its functions and units, and a new block of valid code fits.
use Rattle.std.proofs.Common.{◌≡◌, ℕ, zero, suc, ◌+◌, ◌<◌, ◌&&◌, nat_lt, Bool, true, false, if◌then◌else◌, Option, Some, None, List, [], ◌∷◌, length, replicate, refl, sym, ap, subst, slice_get}
use Rattle.std.proofs.Common.{slice_set, unwrap_or, map, arith}
use Rattle.std.specs.Prelude.{⊤}
use Rattle.ceal_base.specs.Access.{holds}
use Rattle.ceal_base.specs.Block.{Blocks, block_at}
use Rattle.ceal_base.specs.Fitting.{fits_kind, fits_field, words_fit, fields_fit}
use Rattle.ceal_base.specs.Shapes.{default_of_field, default_block, kinds_of_shape}
use Rattle.ceal_base.specs.declared.forest.Key.{Key}
use Rattle.ceal_base.specs.declared.forest.Key.TheVariants.{Init, ModInt as IntKey, ModPtr as PtrKey}
use Rattle.ceal_base.specs.declared.kind.FieldKind.{FieldKind}
use Rattle.ceal_base.specs.declared.kind.FieldKind.TheVariants.{Plain as PlainField, CellInt, CellPtr}
use Rattle.ceal_base.specs.declared.kind.Kind.{Kind}
use Rattle.ceal_base.specs.declared.kind.Kind.TheVariants.{Int}
use Rattle.ceal_base.specs.declared.kind.Shape.TheVariants.{Struct}
use Rattle.ceal_base.specs.declared.typed.StructInfo.{StructInfo}
use Rattle.ceal_base.specs.declared.word.Word.{Word}
use Rattle.ceal_base.specs.declared.word.Word.TheVariants.{Null}
use Rattle.ceal_code.proofs.Words.RowKinds.{RowsHold, rows-hold}
use Rattle.ceal_code.proofs.Words.SameIsEqual.{both, some-same, none-some, both-true}
use Rattle.ceal_code.proofs.TypedCode.TypedExpressions.{Typed, EnvTyped, MemoryTyped, fits-typed, default-fits, expr-there, asked-there, value-fits}
use Rattle.ceal_code.specs.Init.{set_plain, set_by, set_by_row, set_by_all, arguments, made_by, made}
use Rattle.ceal_code.specs.Program.{Unit as CodeUnit, Code}
use Rattle.ceal_code.specs.Running.{IsPlainField, StmtThere, RowThere, StmtsThere, Initialiser}
use Rattle.ceal_code.specs.Valid.{Typing, is_empty, kinds_ok, fits, type_of, all_fit, set_ok, stmt_ok, row_ok, stmts_ok, structs_ok, unit_ok, units_ok, function_ok, functions_ok, valid}
use Rattle.ceal_code.specs.Value.{Variables, field_kind, expr_value, values}
use Rattle.ceal_code.specs.declared.expr.CodeExpr.{CodeExpr}
use Rattle.ceal_code.specs.declared.function.FunctionCode.{FunctionCode}
use Rattle.ceal_code.specs.declared.function.FunctionCode.TheVariants.{Core as CoreFunction, Init as InitFunction}
use Rattle.ceal_code.specs.declared.function.InitStmt.{InitStmt, Set, If' as IfStmt', Row_of-InitStmt, end_of-InitStmt, more_of-InitStmt}

units-in : (code : Code) (units : List CodeUnit) → units_ok code units ≡ true → (u : ℕ) (unit : CodeUnit) → slice_get units u ≡ Some unit → unit_ok code unit ≡ true
unfolding units_ok
units-in code [] h u unit e = none-some unit e
units-in code (w ∷ units) h zero unit e = let k = both (unit_ok code w) (units_ok code units) h in subst (λ w. unit_ok code w ≡ true) (some-same w unit e) k.0
units-in code (w ∷ units) h (suc u) unit e = let k = both (unit_ok code w) (units_ok code units) h in units-in code units k.1 u unit e

-- a function of the code, with the kinds of its variables
pub record FunctionAt (code : Code) (kinds : List (List Kind)) (f g : ℕ) (function : FunctionCode) : Type 0 where
  pub kinds' : List Kind
  pub there : slice_get kinds g ≡ Some kinds'
  pub ok : function_ok code f function kinds' ≡ true

functions-in : (code : Code) (f k : ℕ) (functions : List FunctionCode) (kinds : List (List Kind)) → functions_ok code f functions kinds ≡ true → (g : ℕ) (function : FunctionCode)
    → slice_get functions g ≡ Some function → k ≡ f + g
    → FunctionAt code kinds k g function
unfolding functions_ok
functions-in code f k [] [] h g function e i = none-some function e
functions-in code f k [] (ks ∷ kinds) h g function e i = none-some function e
functions-in code f k (w ∷ functions) [] h g function e i = absurd (grind (arith, h))
functions-in code f k (w ∷ functions) (ks ∷ kinds) h zero function e i =
    let p = both (function_ok code f w ks) (functions_ok code (f + 1) functions kinds) h in
    let j : f ≡ k = omega (arith, i) in
    record { kinds' = ks; there = refl; ok = subst (λ n. function_ok code n function ks ≡ true) j (subst (λ w. function_ok code f w ks ≡ true) (some-same w function e) p.0) }
functions-in code f k (w ∷ functions) (ks ∷ kinds) h (suc g) function e i =
    let p = both (function_ok code f w ks) (functions_ok code (f + 1) functions kinds) h in
    let q = functions-in code (f + 1) k functions kinds p.1 g function e (omega (arith, i)) in
    record { kinds' = q.kinds'; there = q.there; ok = q.ok }

module _ (code : Code) (ok : valid code ≡ true) where
  pub units-valid : units_ok code code.units ≡ true
  unfolding valid
  units-valid =
      let k = both (structs_ok code.structs code.structs) (functions_ok code 0 code.functions code.kinds && units_ok code code.units) ok in
      (both (functions_ok code 0 code.functions code.kinds) (units_ok code code.units) k.1).1

  pub functions-valid : functions_ok code 0 code.functions code.kinds ≡ true
  unfolding valid
  functions-valid =
      let k = both (structs_ok code.structs code.structs) (functions_ok code 0 code.functions code.kinds && units_ok code code.units) ok in
      (both (functions_ok code 0 code.functions code.kinds) (units_ok code code.units) k.1).0

  -- and of its structs
  pub rows-valid : RowsHold code.structs
  unfolding valid
  rows-valid =
      let k = both (structs_ok code.structs code.structs) (functions_ok code 0 code.functions code.kinds && units_ok code code.units) ok in
      rows-hold code.structs k.0

  pub unit-valid : (u : ℕ) (unit : CodeUnit) → slice_get code.units u ≡ Some unit → unit_ok code unit ≡ true
  unit-valid = units-in code code.units units-valid

  pub function-valid : (g : ℕ) (function : FunctionCode) → slice_get code.functions g ≡ Some function → FunctionAt code code.kinds g g function
  function-valid g function e = functions-in code 0 g code.functions code.kinds functions-valid g function e (omega arith)

module _ (structs : List StructInfo) (m : Blocks) where
  -- a field gets a word that fits it
  pub fields-set : (kinds : List FieldKind) (ws : List Word) (n : ℕ) (kind : FieldKind) (w : Word) → fields_fit structs m kinds ws ≡ true → slice_get kinds n ≡ Some kind → fits_field structs m kind w
      ≡ true
      → fields_fit structs m kinds (slice_set ws n w) ≡ true
  fields-set [] [] n kind w h e k = h
  fields-set [] (v ∷ ws) n kind w h e k = absurd (grind (arith, h))
  fields-set (z ∷ kinds) [] n kind w h e k = absurd (grind (arith, h))
  fields-set (z ∷ kinds) (v ∷ ws) zero kind w h e k =
      let p = both (fits_field structs m z v) (fields_fit structs m kinds ws) h in
      both-true (fits_field structs m z w) (fields_fit structs m kinds ws) (subst (λ z. fits_field structs m z w ≡ true) (sym (some-same z kind e)) k) p.1
  fields-set (z ∷ kinds) (v ∷ ws) (suc n) kind w h e k =
      let p = both (fits_field structs m z v) (fields_fit structs m kinds ws) h in
      both-true (fits_field structs m z v) (fields_fit structs m kinds (slice_set ws n w)) p.0 (fields-set kinds ws n kind w p.1 e k)

  defaults-fit : (kinds : List FieldKind) → fields_fit structs m kinds (map default_of_field kinds) ≡ true
  defaults-fit [] = refl
  defaults-fit (PlainField kind ∷ kinds) =
      both-true (fits_kind structs m kind (default_of_field (PlainField kind))) (fields_fit structs m kinds (map default_of_field kinds)) (default-fits structs m kind) (defaults-fit kinds)
  defaults-fit (CellInt ∷ kinds) = defaults-fit kinds
  defaults-fit (CellPtr s ∷ kinds) = defaults-fit kinds

  -- one word for each parameter, which fits it
  pub word-at : (kinds : List Kind) (ws : List Word) → words_fit structs m kinds ws ≡ true → (v : ℕ) (kind : Kind) → slice_get kinds v ≡ Some kind
      → fits_kind structs m kind (unwrap_or (slice_get ws v) Null) ≡ true
  word-at [] ws h v kind e = none-some kind e
  word-at (k ∷ kinds) [] h v kind e = absurd (grind (arith, h))
  word-at (k ∷ kinds) (w ∷ ws) h zero kind e =
      let p = both (fits_kind structs m k w) (words_fit structs m kinds ws) h in subst (λ k. fits_kind structs m k w ≡ true) (some-same k kind e) p.0
  word-at (k ∷ kinds) (w ∷ ws) h (suc v) kind e = let p = both (fits_kind structs m k w) (words_fit structs m kinds ws) h in word-at kinds ws p.1 v kind e

  pub words-count : (kinds : List Kind) (ws : List Word) → words_fit structs m kinds ws ≡ true → length kinds ≡ length ws
  words-count [] [] h = refl
  words-count [] (w ∷ ws) h = absurd (grind (arith, h))
  words-count (k ∷ kinds) [] h = absurd (grind (arith, h))
  words-count (k ∷ kinds) (w ∷ ws) h = let p = both (fits_kind structs m k w) (words_fit structs m kinds ws) h in ap suc (words-count kinds ws p.1)

  arguments-typed : (params : List Kind) (known : List Bool) (args : List Word) → words_fit structs m params args ≡ true → EnvTyped structs m params known (arguments args)
  unfolding arguments
  arguments-typed params known args h v kind e k = word-at params args h v kind e

  module _ (rows : RowsHold structs) (typed : MemoryTyped structs m) where
    pub all-values : (kinds : List Kind) (known : List Bool) (env : Variables) → EnvTyped structs m kinds known env → (params : List Kind) (es : List CodeExpr) → all_fit structs kinds known params es
        ≡ true
        → words_fit structs m params (values structs (block_at m) env es) ≡ true
    unfolding all_fit values
    all-values kinds known env envs [] [] h = h
    all-values kinds known env envs [] (e ∷ es) h = absurd (grind (arith, h))
    all-values kinds known env envs (k ∷ params) [] h = absurd (grind (arith, h))
    all-values kinds known env envs (k ∷ params) (e ∷ es) h =
        let p = both (fits k (type_of structs kinds known e)) (all_fit structs kinds known params es) h in
        both-true (fits_kind structs m k (expr_value structs (block_at m) env e)) (words_fit structs m params (values structs (block_at m) env es))
        (value-fits structs m rows typed kinds known env envs k e p.0)
        (all-values kinds known env envs params es p.1)

    module _ (params : List Kind) (known : List Bool) (env : Variables) (envs : EnvTyped structs m params known env) (s : ℕ) where
      set-typed : (field : ℕ) (e : CodeExpr) (k : Option FieldKind) → field_kind structs (Struct s) field ≡ k → set_ok k (type_of structs params known e) ≡ true → (ws : List Word)
          → fields_fit structs m (kinds_of_shape structs (Struct s)) ws ≡ true
          → fields_fit structs m (kinds_of_shape structs (Struct s)) (set_plain k ws field (expr_value structs (block_at m) env e)) ≡ true
      set-typed field e None i h ws g = absurd (grind (arith, h))
      set-typed field e (Some CellInt) i h ws g = absurd (grind (arith, h))
      set-typed field e (Some (CellPtr z)) i h ws g = absurd (grind (arith, h))
      set-typed field e (Some (PlainField kind)) i h ws g =
          fields-set (kinds_of_shape structs (Struct s)) ws field (PlainField kind) (expr_value structs (block_at m) env e) g i (value-fits structs m rows typed params known env envs kind e h)

      fits-if : (b : Bool) (kinds : List FieldKind) (vs ws : List Word) → fields_fit structs m kinds vs ≡ true → fields_fit structs m kinds ws ≡ true
          → fields_fit structs m kinds (if b then vs else ws) ≡ true
      fits-if true kinds vs ws h k = h
      fits-if false kinds vs ws h k = k

      mutual
        unfolding set_by stmt_ok

        set_by-fits : (stmt : InitStmt) (ws : List Word) → stmt_ok structs params known s stmt ≡ true → fields_fit structs m (kinds_of_shape structs (Struct s)) ws ≡ true
            → fields_fit structs m (kinds_of_shape structs (Struct s)) (set_by structs (block_at m) env s ws stmt) ≡ true
        set_by-fits (Set field e) ws h g = set-typed field e (field_kind structs (Struct s) field) refl h ws g
        set_by-fits (IfStmt' test _ first _ second) ws h g =
            let p = both (fits Int (type_of structs params known test)) (row_ok structs params known s first && row_ok structs params known s second) h in
            let q = both (row_ok structs params known s first) (row_ok structs params known s second) p.1 in
            fits-if (holds (expr_value structs (block_at m) env test)) (kinds_of_shape structs (Struct s)) (set_by_row structs (block_at m) env s ws first)
            (set_by_row structs (block_at m) env s ws second)
            (row-fits first ws q.0 g) (row-fits second ws q.1 g)

        row-fits : {n : _} (row : Row_of-InitStmt n) (ws : List Word) → row_ok structs params known s row ≡ true → fields_fit structs m (kinds_of_shape structs (Struct s)) ws ≡ true
            → fields_fit structs m (kinds_of_shape structs (Struct s)) (set_by_row structs (block_at m) env s ws row) ≡ true
        row-fits end_of-InitStmt ws h g = g
        row-fits (more_of-InitStmt stmt rest) ws h g =
            let p = both (stmt_ok structs params known s stmt) (row_ok structs params known s rest) h in row-fits rest (set_by structs (block_at m) env s ws stmt) p.1 (set_by-fits stmt ws p.0 g)

      all-set : (stmts : List InitStmt) (ws : List Word) → stmts_ok structs params known s stmts ≡ true → fields_fit structs m (kinds_of_shape structs (Struct s)) ws ≡ true
          → fields_fit structs m (kinds_of_shape structs (Struct s)) (set_by_all structs (block_at m) env s ws stmts) ≡ true
      unfolding set_by_all stmts_ok
      all-set [] ws h g = g
      all-set (stmt ∷ rest) ws h g =
          let p = both (stmt_ok structs params known s stmt) (stmts_ok structs params known s rest) h in all-set rest (set_by structs (block_at m) env s ws stmt) p.1 (set_by-fits stmt ws p.0 g)

      -- what the statements of a right body name is there
      field-there : (k : Option FieldKind) (t : Typing) → set_ok k t ≡ true → IsPlainField k × Typed t
      field-there None t h = absurd (grind (arith, h))
      field-there (Some CellInt) t h = absurd (grind (arith, h))
      field-there (Some (CellPtr z)) t h = absurd (grind (arith, h))
      field-there (Some (PlainField kind)) t h = (tt, fits-typed kind t h)

      mutual
        unfolding stmt_ok

        stmt-there : (stmt : InitStmt) → stmt_ok structs params known s stmt ≡ true → StmtThere structs m params env s stmt
        stmt-there (Set field e) h =
            let p = field-there (field_kind structs (Struct s) field) (type_of structs params known e) h in (p.0, expr-there structs m rows typed params known env envs e p.1)
        stmt-there (IfStmt' test _ first _ second) h =
            let p = both (fits Int (type_of structs params known test)) (row_ok structs params known s first && row_ok structs params known s second) h in
            let q = both (row_ok structs params known s first) (row_ok structs params known s second) p.1 in
            (asked-there structs m rows typed params known env envs Int test p.0, row-there first q.0, row-there second q.1)

        row-there : {n : _} (row : Row_of-InitStmt n) → row_ok structs params known s row ≡ true → RowThere structs m params env s row
        row-there end_of-InitStmt h = tt
        row-there (more_of-InitStmt stmt rest) h =
            let p = both (stmt_ok structs params known s stmt) (row_ok structs params known s rest) h in (stmt-there stmt p.0, row-there rest p.1)

      stmts-there : (stmts : List InitStmt) → stmts_ok structs params known s stmts ≡ true → StmtsThere structs m params env s stmts
      unfolding stmts_ok
      stmts-there [] h = tt
      stmts-there (stmt ∷ rest) h =
          let p = both (stmt_ok structs params known s stmt) (stmts_ok structs params known s rest) h in (stmt-there stmt p.0, stmts-there rest p.1)

abbrev pub InitTyped : Code → Blocks → List Word → Option FunctionCode → Type 0
InitTyped code m args (Some (InitFunction name s params body)) = words_fit code.structs m params args ≡ true
InitTyped code m args (Some (CoreFunction name entry params)) = ⊥
InitTyped code m args None = ⊥

-- the key is that of an initialiser, on words that fit its parameters, or of a modifiable
abbrev pub KeyTyped : Code → Blocks → Key → Type 0
KeyTyped code m (Init f args) = InitTyped code m args (slice_get code.functions f)
KeyTyped code m IntKey = ⊤
KeyTyped code m (PtrKey s) = ⊤

module _ (code : Code) (ok : valid code ≡ true) (m : Blocks) (typed : MemoryTyped code.structs m) where
  init-ok : (f : ℕ) (name : List ℕ) (s : ℕ) (params : List Kind) (body : List InitStmt) (ks : List Kind) → function_ok code f (InitFunction name s params body) ks ≡ true
      → (s < length code.structs) × (stmts_ok code.structs params (replicate (length params) true) s body ≡ true)
  init-ok f name s params body ks h =
      let p = both (is_empty ks && kinds_ok code.structs params) (nat_lt s (length code.structs) && stmts_ok code.structs params (replicate (length params) true) s body) h in
      let q = both (nat_lt s (length code.structs)) (stmts_ok code.structs params (replicate (length params) true) s body) p.1 in
      (grind (arith, q.0), q.1)

  -- an initialiser on words that fit its parameters: all that it names is there
  pub initialiser-there : (f : ℕ) (args : List Word) (function : Option FunctionCode) → slice_get code.functions f ≡ function → InitTyped code m args function
      → Initialiser code.structs m function args
  initialiser-there f args None e h = h
  initialiser-there f args (Some (CoreFunction name entry params)) e h = h
  initialiser-there f args (Some (InitFunction name s params body)) e h =
      let g = function-valid code ok f (InitFunction name s params body) e in
      let p = init-ok f name s params body g.kinds' g.ok in
      let known = replicate (length params) true in (
        words-count code.structs m params args h,
        p.0,
        stmts-there code.structs m (rows-valid code ok) typed params known (arguments args) (arguments-typed code.structs m params known args h) s body p.1,
      )

  made_by-fits : (f : ℕ) (args : List Word) (function : Option FunctionCode) → slice_get code.functions f ≡ function → InitTyped code m args function
      → fields_fit code.structs m (kinds_of_shape code.structs (made_by code.structs (block_at m) args function).shape) (made_by code.structs (block_at m) args function).words ≡ true
  made_by-fits f args None e h = absurd h
  made_by-fits f args (Some (CoreFunction name entry params)) e h = absurd h
  made_by-fits f args (Some (InitFunction name s params body)) e h =
      let g = function-valid code ok f (InitFunction name s params body) e in
      let p = init-ok f name s params body g.kinds' g.ok in
      all-set code.structs m (rows-valid code ok) typed params (replicate (length params) true) (arguments args) (arguments-typed code.structs m params (replicate (length params) true) args h) s body
      (default_block code.structs (Struct s)).words p.1 (defaults-fit code.structs m (kinds_of_shape code.structs (Struct s)))

  -- a new block fits
  pub made-fits : (key : Key) → KeyTyped code m key → fields_fit code.structs m (kinds_of_shape code.structs (made code (block_at m) key).shape) (made code (block_at m) key).words ≡ true
  unfolding made
  made-fits (Init f args) h = made_by-fits f args (slice_get code.functions f) refl h
  made-fits IntKey h = refl
  made-fits (PtrKey s) h = refl
