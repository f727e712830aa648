-- A command of valid code at a typed state: all that it names is there, and its step gives a typed state.
use Rattle.std.proofs.Common.{◌≡◌, ℕ, ◌+◌, ◌<◌, Bool, true, false, if◌then◌else◌, Option, Some, None, List, length, refl, sym, subst, slice_get, slice_set, arith}
use Rattle.ceal_base.specs.Access.{holds}
use Rattle.ceal_base.specs.Block.{Blocks, block_at}
use Rattle.ceal_base.specs.Fitting.{fits_kind}
use Rattle.ceal_base.specs.declared.forest.UnitId.{UnitId}
use Rattle.ceal_base.specs.declared.kind.Kind.{Kind}
use Rattle.ceal_base.specs.declared.kind.Kind.TheVariants.{Int, Ptr, ModInt, ModPtr}
use Rattle.ceal_base.specs.declared.kind.Shape.{Shape}
use Rattle.ceal_base.specs.declared.kind.Shape.TheVariants.{Struct, ModInt as OneInt, ModPtr as OnePtr}
use Rattle.ceal_base.specs.declared.word.Word.{Word}
use Rattle.ceal_base.specs.declared.word.Word.TheVariants.{Num, Null, Block as BlockWord, At}
use Rattle.ceal_code.proofs.TypedCode.ShapesKept.{ShapesKept, fits-kept}
use Rattle.ceal_code.proofs.Replay.MemoryChanges.{get-within}
use Rattle.ceal_code.proofs.Words.RowKinds.{kind-same}
use Rattle.ceal_code.proofs.Words.SameIsEqual.{both}
use Rattle.ceal_code.proofs.TypedCode.TypedExpressions.{HasType, EnvTyped, MemoryTyped, write-types, place-typed, default-fits, value-type, expr-there, asked-there}
use Rattle.ceal_code.proofs.TypedCode.TypedActs.{StepCommand, maybe-within, path-within, write-place, read-place, takes-typed, gives-typed, asked, there-if, all-there, GoesTo, unit-entered, Reader}
use Rattle.ceal_code.proofs.TypedCode.TypedActs.{reader-entered, Callee, callee}
use Rattle.ceal_code.proofs.TypedCode.TypedBlocks.{rows-valid, all-values, initialiser-there}
use Rattle.ceal_code.proofs.TypedCode.TypedStack.{no-tail, pointer_kind, set-typed, FrameTyped, StackTyped, AtCommand, at-command, stack-kept, ActTyped}
use Rattle.ceal_code.specs.Program.{Unit as CodeUnit, Code}
use Rattle.ceal_code.specs.Running.{CommandThere, StackThere}
use Rattle.ceal_code.specs.Step.{Stack, Empty, Run, unit_at, command_at, kinds_of, variable_default, entered, words_after_read, place_of, writes_at, reads_at, act}
use Rattle.ceal_code.specs.Valid.{Typing, fits, fits_maybe, type_of, all_fit, unit_fits, read_fits, call_fits, alloc_fits, place_fits, paths_ok, valid}
use Rattle.ceal_code.specs.Value.{Variables, set, expr_value, values}
use Rattle.ceal_code.specs.declared.command.Cmd.{Cmd}
use Rattle.ceal_code.specs.declared.command.Cmd.TheVariants.{Move, Tick, Alloc, Modref, Write, If, Done, Tail, Read, Call}
use Rattle.ceal_code.specs.declared.typing.ExprType.TheVariants.{Of}
use Rattle.ceal_code.specs.declared.expr.CodeExpr.{CodeExpr}
use Rattle.ceal_code.specs.declared.expr.VarId.{VarId}
use Rattle.ceal_code.specs.declared.function.FunctionCode.{FunctionCode}
use Rattle.ceal_code.specs.declared.function.FunctionCode.TheVariants.{Core as CoreFunction, Init as InitFunction}

place-some : (kinds : List Kind) (v : ℕ) (t : Typing) → place_fits (slice_get kinds v) t ≡ true → v < length kinds
place-some kinds v t h = go (slice_get kinds v) refl h
  where
    go : (k : Option Kind) → slice_get kinds v ≡ k → place_fits k t ≡ true → v < length kinds
    go None e h = absurd (grind (arith, h))
    go (Some kind) e h = get-within kinds v kind e

module _ (code : Code) (ok : valid code ≡ true) (m : Blocks) (typed : MemoryTyped code.structs m) where
  module _ (u i : ℕ) (env : Variables) where
    -- the unit continues at an index, with another word of one variable
    set-frame : (v : VarId) (w : Word) (unit : CodeUnit) (known : List Bool) (fuel j : ℕ) → slice_get code.units u ≡ Some unit → EnvTyped code.structs m (kinds_of code unit.function) known env
        → paths_ok code unit.function unit.body fuel j (slice_set known v.0 true) true ≡ true
        → ((kind : Kind) → slice_get (kinds_of code unit.function) v.0 ≡ Some kind → fits_kind code.structs m kind w ≡ true)
        → FrameTyped code m u j (set env v.0 w)
    set-frame v w unit known fuel j e envs path k = record {
      unit = unit;
      there = e;
      known = slice_set known v.0 true;
      stepped = true;
      fuel = fuel;
      path = path;
      envs = set-typed code m (kinds_of code unit.function) known env v.0 w envs k;
    }

    -- the unit continues at an index
    on-frame : (c : Cmd) (at : AtCommand code m u i env c) (j : ℕ) → paths_ok code at.unit.function at.unit.body at.fuel j at.known true ≡ true → FrameTyped code m u j env
    on-frame c at j path = record { unit = at.unit; there = at.there; known = at.known; stepped = true; fuel = at.fuel; path = path; envs = at.envs }

  -- the unit continues with a new block
  goes-on : (u i : ℕ) (env : Variables) (v : VarId) (shape : Shape) (below : Stack) (unit : CodeUnit) (known : List Bool) (fuel : ℕ) → slice_get code.units u ≡ Some unit
      → EnvTyped code.structs m (kinds_of code unit.function) known env
      → paths_ok code unit.function unit.body fuel (i + 1) (slice_set known v.0 true) true ≡ true → fits_maybe (slice_get (kinds_of code unit.function) v.0) (Some (Of (pointer_kind shape))) ≡ true
      → StackTyped code m below
      → (m' : Blocks) (w : Word) → ShapesKept m m' → fits_kind code.structs m' (pointer_kind shape) w ≡ true → StackTyped code m' (Run u (i + 1) (set env v.0 w) below)
  goes-on u i env v shape below unit known fuel e envs path asks h m' w kept k = (frame, stack-kept code m m' kept below h)
    where
      pointed : (kind : Kind) → slice_get (kinds_of code unit.function) v.0 ≡ Some kind → fits_kind code.structs m' kind w ≡ true
      pointed kind j =
          let a : fits kind (Some (Of (pointer_kind shape))) ≡ true = rw j at asks in
          subst (λ kind. fits_kind code.structs m' kind w ≡ true) (sym (kind-same kind (pointer_kind shape) a)) k

      frame : FrameTyped code m' u (i + 1) (set env v.0 w)
      frame = record {
        unit = unit;
        there = e;
        known = slice_set known v.0 true;
        stepped = true;
        fuel = fuel;
        path = path;
        envs = set-typed code m' (kinds_of code unit.function) known env v.0 w (λ n kind e i. fits-kept code.structs m m' kept kind (env n) (envs n kind e i)) pointed;
      }

  module _ (u i : ℕ) (env : Variables) (below : Stack) (under : StackTyped code m below) where
    alloc-typed : (v : VarId) (g : ℕ) (args : List CodeExpr) (at : AtCommand code m u i env (Alloc v g args)) (o : Option FunctionCode) → slice_get code.functions g ≡ o
        → alloc_fits code at.unit.function at.known (slice_get (kinds_of code at.unit.function) v.0) o args ≡ true
        → ActTyped code m (act code (block_at m) (Alloc v g args) u i env below)
    alloc-typed v g args at None e h = absurd (grind (arith, h))
    alloc-typed v g args at (Some (CoreFunction name entry params)) e h = absurd (grind (arith, h))
    alloc-typed v g args at (Some (InitFunction name s params body)) e h =
        let k = both (fits_maybe (slice_get (kinds_of code at.unit.function) v.0) (Some (Of (Ptr s)))) (all_fit code.structs (kinds_of code at.unit.function) at.known params args) h in
        let ws = all-values code.structs m (rows-valid code ok) typed (kinds_of code at.unit.function) at.known env at.envs params args k.1 in (
          rw e ws,
          λ m' w kept j. let j' : fits_kind code.structs m' (Ptr s) w
              ≡ true = rw e at j in goes-on u i env v (Struct s) below at.unit at.known at.fuel at.there at.envs at.onward' k.0 under m' w kept j',
        )

    modref-typed : (v : VarId) (shape : Shape) → AtCommand code m u i env (Modref v shape) → ActTyped code m (act code (block_at m) (Modref v shape) u i env below)
    modref-typed v OneInt at = (tt, goes-on u i env v OneInt below at.unit at.known at.fuel at.there at.envs at.onward' at.ok under)
    modref-typed v (OnePtr s) at = (tt, goes-on u i env v (OnePtr s) below at.unit at.known at.fuel at.there at.envs at.onward' at.ok under)
    modref-typed v (Struct s) at = absurd (grind (arith, at.ok))

    write-typed : (p e : CodeExpr) (at : AtCommand code m u i env (Write p e)) (w : Word) → HasType code.structs m (type_of code.structs (kinds_of code at.unit.function) at.known p) w
        → ActTyped code m (writes_at (place_of w) (expr_value code.structs (block_at m) env e) (Run u (i + 1) env below))
    write-typed p e at Null h = (on-frame u i env (Write p e) at (i + 1) at.onward', under)
    write-typed p e at (Num n) h = (on-frame u i env (Write p e) at (i + 1) at.onward', under)
    write-typed p e at (BlockWord b) h = (on-frame u i env (Write p e) at (i + 1) at.onward', under)
    write-typed p e at (At q) h = (
      takes-typed code m q (expr_value code.structs (block_at m) env e) (type_of code.structs (kinds_of code at.unit.function) at.known p)
          (type_of code.structs (kinds_of code at.unit.function) at.known e) at.ok h
          (value-type code.structs m (rows-valid code ok) typed (kinds_of code at.unit.function) at.known env at.envs e),
      (on-frame u i env (Write p e) at (i + 1) at.onward', under),
    )

    if-typed : (test : CodeExpr) (first second : ℕ) (at : AtCommand code m u i env (If test first second)) (b : Bool) → StackTyped code m (Run u (if b then first else second) env below)
    if-typed test first second at b = go b
      where
        parts : (paths_ok code at.unit.function at.unit.body at.fuel first at.known true ≡ true) × (paths_ok code at.unit.function at.unit.body at.fuel second at.known true ≡ true)
        parts =
            both (paths_ok code at.unit.function at.unit.body at.fuel first at.known true) (paths_ok code at.unit.function at.unit.body at.fuel second at.known true) at.onward'

        go : (b : Bool) → StackTyped code m (Run u (if b then first else second) env below)
        go true = (on-frame u i env (If test first second) at first parts.0, under)
        go false = (on-frame u i env (If test first second) at second parts.1, under)

    reader-at : (v : VarId) (p : CodeExpr) (w : UnitId) (args : List CodeExpr) (at : AtCommand code m u i env (Read v p w args))
        → (place_fits (slice_get (kinds_of code at.unit.function) v.0) (type_of code.structs (kinds_of code at.unit.function) at.known p) ≡ true)
        × Reader code ok m typed at.unit.function at.known env at.envs w.0 v.0 args
    reader-at v p w args at =
        let k = both (place_fits (slice_get (kinds_of code at.unit.function) v.0) (type_of code.structs (kinds_of code at.unit.function) at.known p))
        (read_fits code at.unit.function at.known v.0 (slice_get code.units w.0) args) at.ok in
        (k.0, reader-entered code ok m typed at.unit.function at.known env at.envs w.0 v.0 args (slice_get code.units w.0) refl k.1)

    read-typed : (v : VarId) (p : CodeExpr) (w : UnitId) (args : List CodeExpr) (at : AtCommand code m u i env (Read v p w args)) (z : Word)
        → HasType code.structs m (type_of code.structs (kinds_of code at.unit.function) at.known p) z
        → ActTyped code m (reads_at code (place_of z) w v.0 (values code.structs (block_at m) env args) below)
    read-typed v p w args at z h = go z h (reader-at v p w args at)
      where
        missed : Reader code ok m typed at.unit.function at.known env at.envs w.0 v.0 args
            → StackTyped code m (entered code w.0 (words_after_read code w.0 v.0 (values code.structs (block_at m) env args) (variable_default code w.0 v.0)) below)
        missed r = r.enters (variable_default code w.0 v.0) (λ kind e. rw (r.unit.function, e) (default-fits code.structs m kind)) below under

        go : (z : Word) → HasType code.structs m (type_of code.structs (kinds_of code at.unit.function) at.known p) z
            → (place_fits (slice_get (kinds_of code at.unit.function) v.0) (type_of code.structs (kinds_of code at.unit.function) at.known p) ≡ true)
            × Reader code ok m typed at.unit.function at.known env at.envs w.0 v.0 args
            → ActTyped code m (reads_at code (place_of z) w v.0 (values code.structs (block_at m) env args) below)
        go Null h k = missed k.1
        go (Num n) h k = missed k.1
        go (BlockWord b) h k = missed k.1
        go (At q) h k =
            gives-typed code m (λ word. StackTyped code m (entered code w.0 (words_after_read code w.0 v.0 (values code.structs (block_at m) env args) word) below)) q
            (slice_get (kinds_of code at.unit.function) v.0)
            (type_of code.structs (kinds_of code at.unit.function) at.known p) k.0 h (λ word fit. k.1.enters word fit below under)

    callee-at : (g : ℕ) (args : List CodeExpr) (w : UnitId) (rest : List CodeExpr) (at : AtCommand code m u i env (Call g args w rest))
        → Callee code ok m typed at.unit.function at.known env at.envs g args × GoesTo code ok m typed at.unit.function at.known env at.envs at.unit.function w.0 rest
    callee-at g args w rest at =
        let k = both (call_fits code at.unit.function at.known g (slice_get code.functions g) args) (unit_fits code at.unit.function at.known (slice_get code.units w.0) rest) at.ok in (
          callee code ok m typed at.unit.function at.known env at.envs g args (slice_get code.functions g) refl k.0,
          unit-entered code ok m typed at.unit.function at.known env at.envs w.0 rest (slice_get code.units w.0) refl k.1,
        )

    -- the step of a command gives a typed state
    pub act-typed : (c : Cmd) → AtCommand code m u i env c → StepCommand c → ActTyped code m (act code (block_at m) c u i env below)
    act-typed (Move v e) at s = (
      set-frame u i env v (expr_value code.structs (block_at m) env e) at.unit at.known at.fuel (i + 1) at.there at.envs at.onward'
          (λ kind j. asked code ok m typed at.unit.function at.known env at.envs (kinds_of code at.unit.function) v.0 e kind at.ok j),
      under,
    )
    act-typed Tick at s = (on-frame u i env Tick at (i + 1) at.onward', under)
    act-typed (Alloc v g args) at s = alloc-typed v g args at (slice_get code.functions g) refl at.ok
    act-typed (Modref v shape) at s = modref-typed v shape at
    act-typed (Write p e) at s =
        write-typed p e at (expr_value code.structs (block_at m) env p) (value-type code.structs m (rows-valid code ok) typed (kinds_of code at.unit.function) at.known env at.envs p)
    act-typed (If test first second) at s = if-typed test first second at (holds (expr_value code.structs (block_at m) env test))
    act-typed Done at s = absurd s
    act-typed (Tail w args) at s = absurd s
    act-typed (Read v p w args) at s =
        read-typed v p w args at (expr_value code.structs (block_at m) env p) (value-type code.structs m (rows-valid code ok) typed (kinds_of code at.unit.function) at.known env at.envs p)
    act-typed (Call g args w rest) at s =
        let k = callee-at g args w rest at in
        k.0.goes.enters (entered code w.0 (values code.structs (block_at m) env rest) below) (k.1.enters below under)

    alloc-there : (v : VarId) (g : ℕ) (args : List CodeExpr) (at : AtCommand code m u i env (Alloc v g args)) (o : Option FunctionCode) → slice_get code.functions g ≡ o
        → alloc_fits code at.unit.function at.known (slice_get (kinds_of code at.unit.function) v.0) o args ≡ true → CommandThere code m u env (Alloc v g args)
    alloc-there v g args at None e h = absurd (grind (arith, h))
    alloc-there v g args at (Some (CoreFunction name entry params)) e h = absurd (grind (arith, h))
    alloc-there v g args at (Some (InitFunction name s params body)) e h =
        let k = both (fits_maybe (slice_get (kinds_of code at.unit.function) v.0) (Some (Of (Ptr s)))) (all_fit code.structs (kinds_of code at.unit.function) at.known params args) h in
        let ws = all-values code.structs m (rows-valid code ok) typed (kinds_of code at.unit.function) at.known env at.envs params args k.1 in
        rw (at.there, e) (
          maybe-within (kinds_of code at.unit.function) v.0 (Some (Of (Ptr s))) k.0,
          all-there code ok m typed at.unit.function at.known env at.envs params args k.1,
          initialiser-there code ok m typed g (values code.structs (block_at m) env args) (Some (InitFunction name s params body)) e ws,
        )

    modref-there : (v : VarId) (shape : Shape) → AtCommand code m u i env (Modref v shape) → CommandThere code m u env (Modref v shape)
    modref-there v OneInt at = rw at.there (maybe-within (kinds_of code at.unit.function) v.0 (Some (Of ModInt)) at.ok, tt)
    modref-there v (OnePtr s) at = rw at.there (maybe-within (kinds_of code at.unit.function) v.0 (Some (Of (ModPtr s))) at.ok, tt)
    modref-there v (Struct s) at = absurd (grind (arith, at.ok))

    -- where a tail goes
    tail-goes : (w : UnitId) (args : List CodeExpr) (at : AtCommand code m u i env (Tail w args)) → GoesTo code ok m typed at.unit.function at.known env at.envs at.unit.function w.0 args
    tail-goes w args at =
        let k = both at.stepped (unit_fits code at.unit.function at.known (slice_get code.units w.0) args) at.ok in
        unit-entered code ok m typed at.unit.function at.known env at.envs w.0 args (slice_get code.units w.0) refl k.1

    -- all that a command names is there
    pub command-there : (c : Cmd) → AtCommand code m u i env c → CommandThere code m u env c
    command-there (Move v e) at =
        rw at.there (
          maybe-within (kinds_of code at.unit.function) v.0 (type_of code.structs (kinds_of code at.unit.function) at.known e) at.ok,
          there-if code ok m typed at.unit.function at.known env at.envs (slice_get (kinds_of code at.unit.function) v.0) e at.ok,
        )
    command-there Tick at = tt
    command-there (Alloc v g args) at = alloc-there v g args at (slice_get code.functions g) refl at.ok
    command-there (Modref v shape) at = modref-there v shape at
    command-there (Write p e) at =
        let k = write-types (type_of code.structs (kinds_of code at.unit.function) at.known p) (type_of code.structs (kinds_of code at.unit.function) at.known e) at.ok in
        rw at.there (
          expr-there code.structs m (rows-valid code ok) typed (kinds_of code at.unit.function) at.known env at.envs p k.0,
          expr-there code.structs m (rows-valid code ok) typed (kinds_of code at.unit.function) at.known env at.envs e k.1,
          write-place code m (type_of code.structs (kinds_of code at.unit.function) at.known p) (type_of code.structs (kinds_of code at.unit.function) at.known e)
              (expr_value code.structs (block_at m) env p) at.ok
              (value-type code.structs m (rows-valid code ok) typed (kinds_of code at.unit.function) at.known env at.envs p),
        )
    command-there (If test first second) at =
        let l = both (paths_ok code at.unit.function at.unit.body at.fuel first at.known true) (paths_ok code at.unit.function at.unit.body at.fuel second at.known true) at.onward' in
        rw at.there (
          asked-there code.structs m (rows-valid code ok) typed (kinds_of code at.unit.function) at.known env at.envs Int test at.ok,
          path-within code at.unit.function at.unit.body at.fuel first at.known true l.0,
          path-within code at.unit.function at.unit.body at.fuel second at.known true l.1,
        )
    command-there Done at = tt
    command-there (Tail w args) at =
        let r = tail-goes w args at in rw at.there (r.args', r.unit, no-tail code ok w.0 r.unit.there)
    command-there (Read v p w args) at =
        let k = reader-at v p w args at in
        rw at.there (
          place-some (kinds_of code at.unit.function) v.0 (type_of code.structs (kinds_of code at.unit.function) at.known p) k.0,
          expr-there code.structs m (rows-valid code ok) typed (kinds_of code at.unit.function) at.known env at.envs p
              (place-typed (slice_get (kinds_of code at.unit.function) v.0) (type_of code.structs (kinds_of code at.unit.function) at.known p) k.0),
          read-place code m (slice_get (kinds_of code at.unit.function) v.0) (type_of code.structs (kinds_of code at.unit.function) at.known p) (expr_value code.structs (block_at m) env p) k.0
              (value-type code.structs m (rows-valid code ok) typed (kinds_of code at.unit.function) at.known env at.envs p),
          k.1.args',
          k.1.unit,
        )
    command-there (Call g args w rest) at =
        let k = callee-at g args w rest at in rw at.there (k.0.core, k.0.goes.args', k.0.goes.unit, k.1.args', k.1.unit)

    pub tail-typed : (w : UnitId) (args : List CodeExpr) → AtCommand code m u i env (Tail w args) → StackTyped code m (entered code w.0 (values code.structs (block_at m) env args) below)
    tail-typed w args at = (tail-goes w args at).enters below under

  -- each unit of the stack is at a command
  pub stack-there : (st : Stack) → StackTyped code m st → StackThere code m st
  stack-there Empty h = tt
  stack-there (Run u i env below) h = (
    get-within code.units u h.0.unit h.0.there,
    here h.0,
    command-there u i env below h.1 (command_at code u i) (at-command code m u i env h.0 (command_at code u i) refl),
    stack-there below h.1,
  )
    where
      here : (f : FrameTyped code m u i env) → i < length (unit_at code u).body
      here f = rw f.there (path-within code f.unit.function f.unit.body f.fuel i f.known f.stepped f.path)
