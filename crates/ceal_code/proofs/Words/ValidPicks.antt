-- Valid code picks only from whole rows.
use Rattle.std.proofs.Common.{◌≡◌, ℕ, ◌&&◌, ◌==◌, nat_lt, Bool, true, Option, Some, None, List, [], ◌∷◌, length, replicate, refl, slice_get, unwrap_or, arith}
use Rattle.ceal_base.specs.declared.kind.Kind.{Kind}
use Rattle.ceal_base.specs.declared.kind.Kind.TheVariants.{Int, Ptr}
use Rattle.ceal_base.specs.declared.kind.FieldKind.{FieldKind}
use Rattle.ceal_base.specs.declared.kind.FieldKind.TheVariants.{Plain as PlainField, CellInt, CellPtr}
use Rattle.ceal_base.specs.declared.kind.Shape.TheVariants.{Struct}
use Rattle.ceal_base.specs.declared.operators.Binary.{Binary}
use Rattle.ceal_base.specs.declared.operators.Binary.TheVariants.{Add, Sub, Mul, Div, Rem, Less, LessEq, More, MoreEq, Same, Differ, And, Or, Pick}
use Rattle.ceal_base.specs.declared.typed.StructInfo.{StructInfo}
use Rattle.ceal_code.proofs.TypedCode.CommandsOnPath.{on-right-path}
use Rattle.ceal_code.proofs.Words.PickedRows.{IfPick, PicksRow, Picks, PicksOperand, PicksAll, PicksCommand, PicksStmt, PicksStmts, PicksBody, PicksFunction, PicksCode}
use Rattle.ceal_code.proofs.Words.SameIsEqual.{both}
use Rattle.ceal_code.proofs.TypedCode.TypedExpressions.{Typed, fits-typed, typed-int, binary-typed, points-typed, points-operand, write-types, place-typed}
use Rattle.ceal_code.proofs.TypedCode.TypedBlocks.{function-valid}
use Rattle.ceal_code.specs.Program.{Unit as CodeUnit, Code}
use Rattle.ceal_code.specs.Step.{kinds_of}
use Rattle.ceal_code.specs.Valid.{Typing, fits, fits_maybe, binary_type, starts_row, operand_suits, points_to, plain_type, cell_type, type_of, operand_type, all_fit, params_fit, others, unit_fits}
use Rattle.ceal_code.specs.Valid.{read_fits, entry_fits, call_fits, alloc_fits, place_fits, command_ok, set_ok, stmt_ok, row_ok, stmts_ok, is_empty, kinds_ok, valid}
use Rattle.ceal_code.specs.Value.{field_kind}
use Rattle.ceal_code.specs.declared.command.Cmd.{Cmd}
use Rattle.ceal_code.specs.declared.command.Cmd.TheVariants.{Move, Tick, Alloc, Modref, Write, If, Done, Tail, Read, Call}
use Rattle.ceal_code.specs.declared.expr.CodeExpr.{CodeExpr, Num as NumExpr, Null as NullExpr, Var, Unary', Binary', Field', Address', Row_of-CodeExpr, end_of-CodeExpr, more_of-CodeExpr}
use Rattle.ceal_code.specs.declared.expr.VarId.{VarId}
use Rattle.ceal_code.specs.declared.function.FunctionCode.{FunctionCode}
use Rattle.ceal_code.specs.declared.function.FunctionCode.TheVariants.{Core as CoreFunction, Init as InitFunction}
use Rattle.ceal_code.specs.declared.typing.ExprType.TheVariants.{Of}
use Rattle.ceal_code.specs.declared.function.InitStmt.{InitStmt, Set, If' as IfStmt', Row_of-InitStmt, end_of-InitStmt, more_of-InitStmt}

-- null, or the address of the first modifiable of a row of this length
abbrev pub Starts : List StructInfo → ℕ → CodeExpr → Type 0
Starts structs row a = starts_row structs row a ≡ true

module _ (structs : List StructInfo) where
  suits-pick : (op : Binary) {n : _} (a : Row_of-CodeExpr n) → operand_suits structs op a ≡ true → IfPick op (λ row. PicksRow (Starts structs) row a)
  suits-pick (Pick row) end_of-CodeExpr h = tt
  suits-pick (Pick row) (more_of-CodeExpr e rest) h = h
  suits-pick Add a h = tt
  suits-pick Sub a h = tt
  suits-pick Mul a h = tt
  suits-pick Div a h = tt
  suits-pick Rem a h = tt
  suits-pick Less a h = tt
  suits-pick LessEq a h = tt
  suits-pick More a h = tt
  suits-pick MoreEq a h = tt
  suits-pick Same a h = tt
  suits-pick Differ a h = tt
  suits-pick And a h = tt
  suits-pick Or a h = tt

  module _ (kinds : List Kind) (known : List Bool) where
    mutual
      unfolding type_of Picks

      typed-picks : (e : CodeExpr) → Typed (type_of structs kinds known e) → Picks (Starts structs) e
      typed-picks (NumExpr n) h = tt
      typed-picks NullExpr h = tt
      typed-picks (Var v) h = tt
      typed-picks (Unary' op _ a) h = operand-picks a (fits-typed Int (operand_type structs kinds known a) (typed-int (fits Int (operand_type structs kinds known a)) h))
      typed-picks (Binary' op _ a _ b) h =
          let p = points-typed (operand_suits structs op a) (binary_type op (operand_type structs kinds known a) (operand_type structs kinds known b)) h in
          let k = binary-typed op (operand_type structs kinds known a) (operand_type structs kinds known b) p.1 in
          (suits-pick op a p.0, operand-picks a k.0, operand-picks b k.1)
      typed-picks (Field' _ a s f) h =
          let k = points-typed (points_to s (operand_type structs kinds known a)) (plain_type (field_kind structs (Struct s) f)) h in
          operand-picks a (points-operand s (operand_type structs kinds known a) k.0)
      typed-picks (Address' _ a s f) h =
          let k = points-typed (points_to s (operand_type structs kinds known a)) (cell_type (field_kind structs (Struct s) f)) h in
          operand-picks a (points-operand s (operand_type structs kinds known a) k.0)

      operand-picks : {n : _} (row : Row_of-CodeExpr n) → Typed (operand_type structs kinds known row) → PicksOperand (Starts structs) row
      operand-picks end_of-CodeExpr h = tt
      operand-picks (more_of-CodeExpr e rest) h = typed-picks e h

    fits-picks : (kind : Kind) (e : CodeExpr) → fits kind (type_of structs kinds known e) ≡ true → Picks (Starts structs) e
    fits-picks kind e h = typed-picks e (fits-typed kind (type_of structs kinds known e) h)

    maybe-picks : (kind : Option Kind) (e : CodeExpr) → fits_maybe kind (type_of structs kinds known e) ≡ true → Picks (Starts structs) e
    maybe-picks None e h = absurd (grind (arith, h))
    maybe-picks (Some kind) e h = fits-picks kind e h

    all-picks : (asked : List Kind) (es : List CodeExpr) → all_fit structs kinds known asked es ≡ true → PicksAll (Starts structs) es
    unfolding all_fit PicksAll
    all-picks [] [] h = tt
    all-picks [] (e ∷ es) h = absurd (grind (arith, h))
    all-picks (k ∷ asked) [] h = absurd (grind (arith, h))
    all-picks (k ∷ asked) (e ∷ es) h =
        let p = both (fits k (type_of structs kinds known e)) (all_fit structs kinds known asked es) h in (fits-picks k e p.0, all-picks asked es p.1)

    params-picks : (theirs : List Kind) (ps : List VarId) (es : List CodeExpr) → params_fit structs kinds known theirs ps es ≡ true → PicksAll (Starts structs) es
    unfolding params_fit PicksAll
    params-picks theirs [] [] h = tt
    params-picks theirs [] (e ∷ es) h = absurd (grind (arith, h))
    params-picks theirs (q ∷ ps) [] h = absurd (grind (arith, h))
    params-picks theirs (q ∷ ps) (e ∷ es) h =
        let p = both (fits_maybe (slice_get theirs q.0) (type_of structs kinds known e)) (params_fit structs kinds known theirs ps es) h in
        (maybe-picks (slice_get theirs q.0) e p.0, params-picks theirs ps es p.1)

    set-typed : (k : Option FieldKind) (t : Typing) → set_ok k t ≡ true → Typed t
    set-typed None t h = absurd (grind (arith, h))
    set-typed (Some CellInt) t h = absurd (grind (arith, h))
    set-typed (Some (CellPtr s)) t h = absurd (grind (arith, h))
    set-typed (Some (PlainField kind)) t h = fits-typed kind t h

    module _ (s : ℕ) where
      mutual
        unfolding stmt_ok PicksStmt

        stmt-picks : (stmt : InitStmt) → stmt_ok structs kinds known s stmt ≡ true → PicksStmt (Starts structs) stmt
        stmt-picks (Set field e) h = typed-picks e (set-typed (field_kind structs (Struct s) field) (type_of structs kinds known e) h)
        stmt-picks (IfStmt' test _ first _ second) h =
            let p = both (fits Int (type_of structs kinds known test)) (row_ok structs kinds known s first && row_ok structs kinds known s second) h in
            let q = both (row_ok structs kinds known s first) (row_ok structs kinds known s second) p.1 in
            (fits-picks Int test p.0, row-picks first q.0, row-picks second q.1)

        row-picks : {n : _} (row : Row_of-InitStmt n) → row_ok structs kinds known s row ≡ true → PicksStmts (Starts structs) row
        row-picks end_of-InitStmt h = tt
        row-picks (more_of-InitStmt stmt rest) h =
            let p = both (stmt_ok structs kinds known s stmt) (row_ok structs kinds known s rest) h in (stmt-picks stmt p.0, row-picks rest p.1)

      body-picks : (stmts : List InitStmt) → stmts_ok structs kinds known s stmts ≡ true → PicksBody (Starts structs) stmts
      unfolding stmts_ok PicksBody
      body-picks [] h = tt
      body-picks (stmt ∷ rest) h =
          let p = both (stmt_ok structs kinds known s stmt) (stmts_ok structs kinds known s rest) h in (stmt-picks stmt p.0, body-picks rest p.1)

module _ (code : Code) (f : ℕ) (known : List Bool) where
  unit-picks : (o : Option CodeUnit) (es : List CodeExpr) → unit_fits code f known o es ≡ true → PicksAll (Starts code.structs) es
  unit-picks None es h = absurd (grind (arith, h))
  unit-picks (Some unit) es h =
      let p = both (unit.function == f) (params_fit code.structs (kinds_of code f) known (kinds_of code f) unit.params es) h in
      params-picks code.structs (kinds_of code f) known (kinds_of code f) unit.params es p.1

  read-picks : (v : ℕ) (o : Option CodeUnit) (es : List CodeExpr) → read_fits code f known v o es ≡ true → PicksAll (Starts code.structs) es
  read-picks v None es h = absurd (grind (arith, h))
  read-picks v (Some unit) es h =
      let p = both (unit.function == f) (params_fit code.structs (kinds_of code f) known (kinds_of code f) (others v unit.params) es) h in
      params-picks code.structs (kinds_of code f) known (kinds_of code f) (others v unit.params) es p.1

  entry-picks : (g : ℕ) (o : Option CodeUnit) (es : List CodeExpr) → entry_fits code f known g o es ≡ true → PicksAll (Starts code.structs) es
  entry-picks g None es h = absurd (grind (arith, h))
  entry-picks g (Some unit) es h = params-picks code.structs (kinds_of code f) known (kinds_of code g) unit.params es h

  call-picks : (g : ℕ) (o : Option FunctionCode) (es : List CodeExpr) → call_fits code f known g o es ≡ true → PicksAll (Starts code.structs) es
  call-picks g None es h = absurd (grind (arith, h))
  call-picks g (Some (InitFunction name s params body)) es h = absurd (grind (arith, h))
  call-picks g (Some (CoreFunction name entry params)) es h = entry-picks g (slice_get code.units entry.0) es h

  alloc-picks : (kind : Option Kind) (o : Option FunctionCode) (es : List CodeExpr) → alloc_fits code f known kind o es ≡ true → PicksAll (Starts code.structs) es
  alloc-picks kind None es h = absurd (grind (arith, h))
  alloc-picks kind (Some (CoreFunction name entry params)) es h = absurd (grind (arith, h))
  alloc-picks kind (Some (InitFunction name s params body)) es h =
      let p = both (fits_maybe kind (Some (Of (Ptr s)))) (all_fit code.structs (kinds_of code f) known params es) h in
      all-picks code.structs (kinds_of code f) known params es p.1

  command-picks : (stepped : Bool) (c : Cmd) → command_ok code f known stepped c ≡ true → PicksCommand (Starts code.structs) c
  command-picks stepped (Move v e) h = maybe-picks code.structs (kinds_of code f) known (slice_get (kinds_of code f) v.0) e h
  command-picks stepped Tick h = tt
  command-picks stepped (Alloc v g args) h = alloc-picks (slice_get (kinds_of code f) v.0) (slice_get code.functions g) args h
  command-picks stepped (Modref v shape) h = tt
  command-picks stepped (Write q e) h =
      let k = write-types (type_of code.structs (kinds_of code f) known q) (type_of code.structs (kinds_of code f) known e) h in
      (typed-picks code.structs (kinds_of code f) known q k.0, typed-picks code.structs (kinds_of code f) known e k.1)
  command-picks stepped (If test first second) h = fits-picks code.structs (kinds_of code f) known Int test h
  command-picks stepped Done h = tt
  command-picks stepped (Tail w args) h =
      let p = both stepped (unit_fits code f known (slice_get code.units w.0) args) h in unit-picks (slice_get code.units w.0) args p.1
  command-picks stepped (Read v q w args) h =
      let p = both (place_fits (slice_get (kinds_of code f) v.0) (type_of code.structs (kinds_of code f) known q)) (read_fits code f known v.0 (slice_get code.units w.0) args) h in (
        typed-picks code.structs (kinds_of code f) known q (place-typed (slice_get (kinds_of code f) v.0) (type_of code.structs (kinds_of code f) known q) p.0),
        read-picks v.0 (slice_get code.units w.0) args p.1,
      )
  command-picks stepped (Call g args w rest) h =
      let p = both (call_fits code f known g (slice_get code.functions g) args) (unit_fits code f known (slice_get code.units w.0) rest) h in
      (call-picks g (slice_get code.functions g) args p.0, unit-picks (slice_get code.units w.0) rest p.1)

module _ (code : Code) (ok : valid code ≡ true) where
  command-in : (u : ℕ) (unit : CodeUnit) → slice_get code.units u ≡ Some unit → (i : ℕ) (o : Option Cmd) → slice_get unit.body i ≡ o
      → PicksCommand (Starts code.structs) (unwrap_or o Done)
  command-in u unit e i None k = tt
  command-in u unit e i (Some c) k =
      let r = on-right-path code ok u unit e i c k in command-picks code unit.function r.0.known r.0.stepped c (r.1 r.0.known r.0.stepped r.0.path)

  unit-in : (u i : ℕ) (o : Option CodeUnit) → slice_get code.units u ≡ o
      → PicksCommand (Starts code.structs) (unwrap_or (slice_get (unwrap_or o (record { function = 0; params = []; body = [] })).body i) Done)
  unit-in u i None e = tt
  unit-in u i (Some unit) e = command-in u unit e i (slice_get unit.body i) refl

  function-in : (f : ℕ) (o : Option FunctionCode) → slice_get code.functions f ≡ o → PicksFunction (Starts code.structs) o
  function-in f None e = tt
  function-in f (Some (CoreFunction name entry params)) e = tt
  function-in f (Some (InitFunction name s params body)) e =
      let g = function-valid code ok f (InitFunction name s params body) e in
      let p = both (is_empty g.kinds' && kinds_ok code.structs params) (nat_lt s (length code.structs) && stmts_ok code.structs params (replicate (length params) true) s body) g.ok in
      let q = both (nat_lt s (length code.structs)) (stmts_ok code.structs params (replicate (length params) true) s body) p.1 in
      body-picks code.structs params (replicate (length params) true) s body q.1

  -- each row that valid code picks from is one of a struct, or null
  pub picks-valid : PicksCode (Starts code.structs) code
  picks-valid = record {
    commands = λ u i. unit-in u i (slice_get code.units u) refl;
    functions = λ f. function-in f (slice_get code.functions f) refl;
  }
