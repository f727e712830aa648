-- A command of valid code at a typed state: what it names is there, and what its step gives is typed.
use Rattle.std.proofs.Common.{◌≡◌, ℕ, zero, suc, ◌<◌, ◌==◌, ◌&&◌, Bool, true, false, if◌then◌else◌, Option, Some, None, List, [], ◌∷◌, length, refl, sym, ap, subst, slice_get, arith}
use Rattle.std.specs.Prelude.{⊤}
use Rattle.ceal_base.specs.Block.{Blocks, block_at}
use Rattle.ceal_base.specs.Fitting.{kind_at, is_int_cell, is_pointer_cell, fits_kind}
use Rattle.ceal_base.specs.declared.forest.UnitId.{UnitId}
use Rattle.ceal_base.specs.declared.kind.FieldKind.{FieldKind}
use Rattle.ceal_base.specs.declared.kind.FieldKind.TheVariants.{Plain as PlainField, CellInt, CellPtr}
use Rattle.ceal_base.specs.declared.kind.Kind.{Kind}
use Rattle.ceal_base.specs.declared.kind.Kind.TheVariants.{Int, Ptr, ModInt, ModPtr}
use Rattle.ceal_base.specs.declared.word.Place.{Place}
use Rattle.ceal_base.specs.declared.word.Word.{Word}
use Rattle.ceal_base.specs.declared.word.Word.TheVariants.{Num, Null, Block as BlockWord, At}
use Rattle.ceal_code.proofs.TypedCode.FittingWords.{int-is_cell, pointer-is_cell}
use Rattle.ceal_code.proofs.Replay.MemoryChanges.{get-within}
use Rattle.ceal_code.proofs.Words.SameIsEqual.{both, nat-same, some-same}
use Rattle.ceal_code.proofs.TypedCode.TypedExpressions.{HasType, EnvTyped, MemoryTyped, maybe-fits, fits-word, value-fits, asked-there}
use Rattle.ceal_code.proofs.TypedCode.TypedBlocks.{rows-valid, function-valid}
use Rattle.ceal_code.proofs.TypedCode.TypedStack.{ParamsTyped, StackTyped, Takes, Gives, enter}
use Rattle.ceal_code.specs.Program.{Unit as CodeUnit, Code}
use Rattle.ceal_code.specs.Running.{Modifiable, ExprThere, ExprsThere, UnitThere}
use Rattle.ceal_code.specs.Step.{Stack, unit_at, entry_of, kinds_of, entered, first_word, later_words, woven, words_after_read}
use Rattle.ceal_code.specs.Valid.{Typing, fits, fits_maybe, type_of, all_fit, params_fit, others, unit_fits, read_fits, entry_fits, call_fits, place_fits, write_fits, path_ok, paths_ok, is_core}
use Rattle.ceal_code.specs.Valid.{is_prefix, kinds_ok, below as all_below, entry_ok, function_ok, valid}
use Rattle.ceal_code.specs.Value.{Variables, expr_value, values}
use Rattle.ceal_code.specs.declared.command.Cmd.{Cmd}
use Rattle.ceal_code.specs.declared.command.Cmd.TheVariants.{Move, Tick, Alloc, Modref, Write, If, Done, Tail, Read, Call}
use Rattle.ceal_code.specs.declared.typing.ExprType.TheVariants.{Of, AnyPointer, AnyPlace}
use Rattle.ceal_code.specs.declared.expr.CodeExpr.{CodeExpr}
use Rattle.ceal_code.specs.declared.expr.VarId.{VarId}
use Rattle.ceal_code.specs.declared.function.FunctionCode.{FunctionCode}
use Rattle.ceal_code.specs.declared.function.FunctionCode.TheVariants.{Core as CoreFunction, Init as InitFunction}

pub maybe-within : (kinds : List Kind) (v : ℕ) (t : Typing) → fits_maybe (slice_get kinds v) t ≡ true → v < length kinds
maybe-within kinds v t h = let k = maybe-fits (slice_get kinds v) t h in get-within kinds v k.0 k.1

pub path-within : (code : Code) (f : ℕ) (body : List Cmd) (fuel i : ℕ) (known : List Bool) (stepped : Bool) → paths_ok code f body fuel i known stepped ≡ true → i < length body
unfolding paths_ok
path-within code f body zero i known stepped h = absurd (grind (arith, h))
path-within code f body (suc fuel) i known stepped h = go (slice_get body i) refl h
  where
    go : (o : Option Cmd) → slice_get body i ≡ o → path_ok code f (paths_ok code f body fuel) o i known stepped ≡ true → i < length body
    go None e h = absurd (grind (arith, h))
    go (Some c) e h = get-within body i c e

-- the command takes a step
abbrev pub StepCommand : Cmd → Type 0
StepCommand Done = ⊥
StepCommand (Tail w args) = ⊥
StepCommand (Move v e) = ⊤
StepCommand Tick = ⊤
StepCommand (Alloc v g args) = ⊤
StepCommand (Modref v shape) = ⊤
StepCommand (Write p e) = ⊤
StepCommand (If test first second) = ⊤
StepCommand (Read v p w args) = ⊤
StepCommand (Call g args w rest) = ⊤

module _ (code : Code) (m : Blocks) where
  int-place : (w : Word) → fits_kind code.structs m ModInt w ≡ true → Modifiable code.structs m w
  int-place (At p) h = int-is_cell (kind_at code.structs m p) h
  int-place Null h = tt
  int-place (Num n) h = absurd (grind (arith, h))
  int-place (BlockWord b) h = absurd (grind (arith, h))

  pointer-place : (s : ℕ) (w : Word) → fits_kind code.structs m (ModPtr s) w ≡ true → Modifiable code.structs m w
  pointer-place s (At p) h = pointer-is_cell s (kind_at code.structs m p) h
  pointer-place s Null h = tt
  pointer-place s (Num n) h = absurd (grind (arith, h))
  pointer-place s (BlockWord b) h = absurd (grind (arith, h))

  -- where a write goes
  pub write-place : (s t : Typing) (w : Word) → write_fits s t ≡ true → HasType code.structs m s w → Modifiable code.structs m w
  write-place None t w h k = absurd (grind (arith, h))
  write-place (Some AnyPointer) t w h k = rw k tt
  write-place (Some AnyPlace) t w h k = rw k tt
  write-place (Some (Of Int)) t w h k = absurd (grind (arith, h))
  write-place (Some (Of (Ptr s))) t w h k = absurd (grind (arith, h))
  write-place (Some (Of ModInt)) t w h k = int-place w k
  write-place (Some (Of (ModPtr s))) t w h k = pointer-place s w k

  -- where a read comes from
  pub read-place : (k : Option Kind) (t : Typing) (w : Word) → place_fits k t ≡ true → HasType code.structs m t w → Modifiable code.structs m w
  read-place None t w h k = absurd (grind (arith, h))
  read-place (Some Int) t w h k = int-place w (fits-word code.structs m ModInt t w h k)
  read-place (Some (Ptr s)) t w h k = pointer-place s w (fits-word code.structs m (ModPtr s) t w h k)
  read-place (Some ModInt) t w h k = absurd (grind (arith, h))
  read-place (Some (ModPtr s)) t w h k = absurd (grind (arith, h))

  int-takes : (p : Place) (value : Word) (o : Option FieldKind) → kind_at code.structs m p ≡ o → is_int_cell o ≡ true → fits_kind code.structs m Int value ≡ true → Takes code m p value
  int-takes p value None e h k = absurd (grind (arith, h))
  int-takes p value (Some (PlainField kind)) e h k = absurd (grind (arith, h))
  int-takes p value (Some (CellPtr s)) e h k = absurd (grind (arith, h))
  int-takes p value (Some CellInt) e h k = record { kind = CellInt; there = e; cell = refl; fits' = k }

  pointer-takes : (s : ℕ) (p : Place) (value : Word) (o : Option FieldKind) → kind_at code.structs m p ≡ o → is_pointer_cell s o ≡ true → fits_kind code.structs m (Ptr s) value ≡ true
      → Takes code m p value
  pointer-takes s p value None e h k = absurd (grind (arith, h))
  pointer-takes s p value (Some (PlainField kind)) e h k = absurd (grind (arith, h))
  pointer-takes s p value (Some CellInt) e h k = absurd (grind (arith, h))
  pointer-takes s p value (Some (CellPtr t)) e h k = record { kind = CellPtr t; there = e; cell = refl; fits' = let i : t ≡ s = sym (nat-same s t h) in rw i k }

  pub takes-typed : (p : Place) (value : Word) (s t : Typing) → write_fits s t ≡ true → HasType code.structs m s (At p) → HasType code.structs m t value → Takes code m p value
  takes-typed p value None t h k l = absurd (grind (arith, h))
  takes-typed p value (Some AnyPointer) t h k l = absurd (grind (arith, k))
  takes-typed p value (Some AnyPlace) t h k l = absurd (grind (arith, k))
  takes-typed p value (Some (Of Int)) t h k l = absurd (grind (arith, h))
  takes-typed p value (Some (Of (Ptr s))) t h k l = absurd (grind (arith, h))
  takes-typed p value (Some (Of ModInt)) t h k l = int-takes p value (kind_at code.structs m p) refl k (fits-word code.structs m Int t value h l)
  takes-typed p value (Some (Of (ModPtr s))) t h k l = pointer-takes s p value (kind_at code.structs m p) refl k (fits-word code.structs m (Ptr s) t value h l)

  int-gives : (F : Word → Type 0) (p : Place) (o : Option FieldKind) → kind_at code.structs m p ≡ o → is_int_cell o ≡ true → ((w : Word) → fits_kind code.structs m Int w ≡ true → F w)
      → Gives code m p F
  int-gives F p None e h g = absurd (grind (arith, h))
  int-gives F p (Some (PlainField kind)) e h g = absurd (grind (arith, h))
  int-gives F p (Some (CellPtr s)) e h g = absurd (grind (arith, h))
  int-gives F p (Some CellInt) e h g = record { kind = CellInt; there = e; cell = refl; goes = g }

  pointer-gives : (s : ℕ) (F : Word → Type 0) (p : Place) (o : Option FieldKind) → kind_at code.structs m p ≡ o → is_pointer_cell s o ≡ true
      → ((w : Word) → fits_kind code.structs m (Ptr s) w ≡ true → F w) → Gives code m p F
  pointer-gives s F p None e h g = absurd (grind (arith, h))
  pointer-gives s F p (Some (PlainField kind)) e h g = absurd (grind (arith, h))
  pointer-gives s F p (Some CellInt) e h g = absurd (grind (arith, h))
  pointer-gives s F p (Some (CellPtr t)) e h g =
      let i : s ≡ t = nat-same s t h in record { kind = CellPtr t; there = e; cell = refl; goes = λ w k. g w (subst (λ n. fits_kind code.structs m (Ptr n) w ≡ true) (sym i) k) }

  pub gives-typed : (F : Word → Type 0) (p : Place) (k : Option Kind) (t : Typing) → place_fits k t ≡ true → HasType code.structs m t (At p)
      → ((w : Word) → ((kind : Kind) → k ≡ Some kind → fits_kind code.structs m kind w ≡ true) → F w) → Gives code m p F
  gives-typed F p None t h k g = absurd (grind (arith, h))
  gives-typed F p (Some ModInt) t h k g = absurd (grind (arith, h))
  gives-typed F p (Some (ModPtr s)) t h k g = absurd (grind (arith, h))
  gives-typed F p (Some Int) t h k g =
      int-gives F p (kind_at code.structs m p) refl (fits-word code.structs m ModInt t (At p) h k)
      (λ w l. g w (λ kind i. subst (λ kind. fits_kind code.structs m kind w ≡ true) (some-same Int kind i) l))
  gives-typed F p (Some (Ptr s)) t h k g =
      pointer-gives s F p (kind_at code.structs m p) refl (fits-word code.structs m (ModPtr s) t (At p) h k)
      (λ w l. g w (λ kind i. subst (λ kind. fits_kind code.structs m kind w ≡ true) (some-same (Ptr s) kind i) l))

  woven-typed : (kinds : List Kind) (v : ℕ) (w : Word) → ((kind : Kind) → slice_get kinds v ≡ Some kind → fits_kind code.structs m kind w ≡ true) → (ps : List VarId) (ws : List Word)
      → ParamsTyped code m kinds (others v ps) ws
      → ParamsTyped code m kinds ps (woven ps v w ws)
  unfolding others woven
  woven-typed kinds v w k [] ws h = tt
  woven-typed kinds v w k (p ∷ ps) ws h = go (woven-typed kinds v w k ps) ws (p.0 == v) refl h
    where
      go : ((ws : List Word) → ParamsTyped code m kinds (others v ps) ws → ParamsTyped code m kinds ps (woven ps v w ws)) → (ws : List Word) (t : Bool) → (p.0 == v) ≡ t
          → ParamsTyped code m kinds (if t then others v ps else p ∷ others v ps) ws
          → ParamsTyped code m kinds (p ∷ ps) (if t then w ∷ woven ps v w ws else first_word ws ∷ woven ps v w (later_words ws))
      go again ws true e h = let j : p.0 ≡ v = nat-same p.0 v e in (λ kind i. k kind (rw j at i), again ws h)
      go again [] false e h = absurd h
      go again (z ∷ ws) false e h = (h.0, again ws h.1)

module _ (code : Code) (ok : valid code ≡ true) (m : Blocks) (typed : MemoryTyped code.structs m) where
  module _ (f : ℕ) (known : List Bool) (env : Variables) (envs : EnvTyped code.structs m (kinds_of code f) known env) where
    pub asked : (theirs : List Kind) (v : ℕ) (e : CodeExpr) (kind : Kind) → fits_maybe (slice_get theirs v) (type_of code.structs (kinds_of code f) known e) ≡ true → slice_get theirs v ≡ Some kind
        → fits_kind code.structs m kind (expr_value code.structs (block_at m) env e) ≡ true
    asked theirs v e kind h i =
        let j : fits kind (type_of code.structs (kinds_of code f) known e) ≡ true = rw i at h in value-fits code.structs m (rows-valid code ok) typed (kinds_of code f) known env envs kind e j

    pub there-if : (k : Option Kind) (e : CodeExpr) → fits_maybe k (type_of code.structs (kinds_of code f) known e) ≡ true → ExprThere code.structs m (kinds_of code f) env e
    there-if None e h = absurd (grind (arith, h))
    there-if (Some kind) e h = asked-there code.structs m (rows-valid code ok) typed (kinds_of code f) known env envs kind e h

    params-typed : (theirs : List Kind) (ps : List VarId) (es : List CodeExpr) → params_fit code.structs (kinds_of code f) known theirs ps es ≡ true
        → ParamsTyped code m theirs ps (values code.structs (block_at m) env es)
    unfolding params_fit values
    params-typed theirs [] [] h = tt
    params-typed theirs [] (e ∷ es) h = absurd (grind (arith, h))
    params-typed theirs (p ∷ ps) [] h = absurd (grind (arith, h))
    params-typed theirs (p ∷ ps) (e ∷ es) h =
        let k = both (fits_maybe (slice_get theirs p.0) (type_of code.structs (kinds_of code f) known e)) (params_fit code.structs (kinds_of code f) known theirs ps es) h in
        (λ kind i. asked theirs p.0 e kind k.0 i, params-typed theirs ps es k.1)

    params-there : (theirs : List Kind) (ps : List VarId) (es : List CodeExpr) → params_fit code.structs (kinds_of code f) known theirs ps es ≡ true
        → ExprsThere code.structs m (kinds_of code f) env es
    unfolding params_fit
    params-there theirs [] [] h = tt
    params-there theirs [] (e ∷ es) h = absurd (grind (arith, h))
    params-there theirs (p ∷ ps) [] h = absurd (grind (arith, h))
    params-there theirs (p ∷ ps) (e ∷ es) h =
        let k = both (fits_maybe (slice_get theirs p.0) (type_of code.structs (kinds_of code f) known e)) (params_fit code.structs (kinds_of code f) known theirs ps es) h in
        (there-if (slice_get theirs p.0) e k.0, params-there theirs ps es k.1)

    pub all-there : (params : List Kind) (es : List CodeExpr) → all_fit code.structs (kinds_of code f) known params es ≡ true → ExprsThere code.structs m (kinds_of code f) env es
    unfolding all_fit
    all-there [] [] h = tt
    all-there [] (e ∷ es) h = absurd (grind (arith, h))
    all-there (p ∷ params) [] h = absurd (grind (arith, h))
    all-there (p ∷ params) (e ∷ es) h =
        let k = both (fits p (type_of code.structs (kinds_of code f) known e)) (all_fit code.structs (kinds_of code f) known params es) h in
        (asked-there code.structs m (rows-valid code ok) typed (kinds_of code f) known env envs p e k.0, all-there params es k.1)

    params-count : (theirs : List Kind) (ps : List VarId) (es : List CodeExpr) → params_fit code.structs (kinds_of code f) known theirs ps es ≡ true → length es ≡ length ps
    unfolding params_fit
    params-count theirs [] [] h = refl
    params-count theirs [] (e ∷ es) h = absurd (grind (arith, h))
    params-count theirs (p ∷ ps) [] h = absurd (grind (arith, h))
    params-count theirs (p ∷ ps) (e ∷ es) h =
        let k = both (fits_maybe (slice_get theirs p.0) (type_of code.structs (kinds_of code f) known e)) (params_fit code.structs (kinds_of code f) known theirs ps es) h in ap suc
        (params-count theirs ps es k.1)

    -- a unit of a function, on arguments
    pub record GoesTo (g w : ℕ) (args : List CodeExpr) : Type 0 where
      pub unit : UnitThere code g w (unit_at code w).params args
      pub args' : ExprsThere code.structs m (kinds_of code f) env args
      pub enters : (st : Stack) → StackTyped code m st → StackTyped code m (entered code w (values code.structs (block_at m) env args) st)

    goes-to : (g w : ℕ) (args : List CodeExpr) (unit : CodeUnit) → slice_get code.units w ≡ Some unit → unit.function ≡ g
        → params_fit code.structs (kinds_of code f) known (kinds_of code g) unit.params args ≡ true → GoesTo g w args
    goes-to g w args unit e i h =
        let ws = params-typed (kinds_of code g) unit.params args h in
        record {
          unit = record { there = get-within code.units w unit e; function = rw e i; words = rw e (params-count (kinds_of code g) unit.params args h) };
          args' = params-there (kinds_of code g) unit.params args h;
          enters = λ st k. enter code ok m w unit (values code.structs (block_at m) env args) st e
              (subst (λ g. ParamsTyped code m (kinds_of code g) unit.params (values code.structs (block_at m) env args)) (sym i) ws) k;
        }

    pub unit-entered : (w : ℕ) (args : List CodeExpr) (o : Option CodeUnit) → slice_get code.units w ≡ o → unit_fits code f known o args ≡ true → GoesTo f w args
    unit-entered w args None e h = absurd (grind (arith, h))
    unit-entered w args (Some unit) e h =
        let p = both (unit.function == f) (params_fit code.structs (kinds_of code f) known (kinds_of code f) unit.params args) h in
        goes-to f w args unit e (nat-same unit.function f p.0) p.1

    -- a unit of the function, on a word for the variable of a read and on arguments
    pub record Reader (w v : ℕ) (args : List CodeExpr) : Type 0 where
      pub unit : UnitThere code f w (others v (unit_at code w).params) args
      pub args' : ExprsThere code.structs m (kinds_of code f) env args
      pub enters : (word : Word) → ((kind : Kind) → slice_get (kinds_of code f) v ≡ Some kind → fits_kind code.structs m kind word ≡ true) → (st : Stack) → StackTyped code m st
          → StackTyped code m (entered code w (words_after_read code w v (values code.structs (block_at m) env args) word) st)

    pub reader-entered : (w v : ℕ) (args : List CodeExpr) (o : Option CodeUnit) → slice_get code.units w ≡ o → read_fits code f known v o args ≡ true → Reader w v args
    reader-entered w v args None e h = absurd (grind (arith, h))
    reader-entered w v args (Some unit) e h =
        let p = both (unit.function == f) (params_fit code.structs (kinds_of code f) known (kinds_of code f) (others v unit.params) args) h in
        let i : unit.function ≡ f = nat-same unit.function f p.0 in
        let ws = params-typed (kinds_of code f) (others v unit.params) args p.1 in
        record {
          unit = record { there = get-within code.units w unit e; function = rw e i; words = rw e (params-count (kinds_of code f) (others v unit.params) args p.1) };
          args' = params-there (kinds_of code f) (others v unit.params) args p.1;
          enters = λ word k st h.
              subst (λ ps. StackTyped code m (entered code w (woven ps v word (values code.structs (block_at m) env args)) st)) (params-at unit e)
              (enter code ok m w unit (woven unit.params v word (values code.structs (block_at m) env args)) st e
              (subst (λ g. ParamsTyped code m (kinds_of code g) unit.params (woven unit.params v word (values code.structs (block_at m) env args))) (sym i)
              (woven-typed code m (kinds_of code f) v word k unit.params (values code.structs (block_at m) env args) ws)) h);
        }
      where
        params-at : (unit : CodeUnit) → slice_get code.units w ≡ Some unit → unit.params ≡ (unit_at code w).params
        params-at unit e = rw e refl

    -- another function, on arguments
    pub record Callee (g : ℕ) (args : List CodeExpr) : Type 0 where
      pub core : is_core (slice_get code.functions g) ≡ true
      pub goes : GoesTo g (entry_of code g) args

    entry-entered : (g w n : ℕ) (args : List CodeExpr) (o : Option CodeUnit) → slice_get code.units w ≡ o → entry_ok g n o ≡ true → entry_fits code f known g o args ≡ true → GoesTo g w args
    entry-entered g w n args None e k h = absurd (grind (arith, h))
    entry-entered g w n args (Some unit) e k h =
        let p = both (unit.function == g) (all_below n unit.params) k in goes-to g w args unit e (nat-same unit.function g p.0) h

    entry-right : (g : ℕ) (name : List ℕ) (entry : UnitId) (params : List Kind) (kinds : List Kind) → function_ok code g (CoreFunction name entry params) kinds ≡ true
        → entry_ok g (length params) (slice_get code.units entry.0) ≡ true
    entry-right g name entry params kinds h = (both (is_prefix params kinds && kinds_ok code.structs kinds) (entry_ok g (length params) (slice_get code.units entry.0)) h).1

    pub callee : (g : ℕ) (args : List CodeExpr) (o : Option FunctionCode) → slice_get code.functions g ≡ o → call_fits code f known g o args ≡ true → Callee g args
    callee g args None e h = absurd (grind (arith, h))
    callee g args (Some (InitFunction name s params body)) e h = absurd (grind (arith, h))
    callee g args (Some (CoreFunction name entry params)) e h =
        let v = function-valid code ok g (CoreFunction name entry params) e in
        let k = entry-entered g entry.0 (length params) args (slice_get code.units entry.0) refl (entry-right g name entry params v.kinds' v.ok) h in
        let is : entry_of code g ≡ entry.0 = rw e in
        record { core = rw e; goes = subst (λ w. GoesTo g w args) (sym is) k }
