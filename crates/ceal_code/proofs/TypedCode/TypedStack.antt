-- In valid code each state of a run is typed: the words of its variables fit their kinds, and what its next step gives
-- is typed again.
use Rattle.std.proofs.Common.{◌≡◌, ℕ, zero, suc, ◌<◌, ◌==◌, ◌&&◌, Bool, true, false, if◌then◌else◌, Option, Some, None, List, [], ◌∷◌, length, replicate, ◌⊎◌, inl, inr, refl, sym, ap, ◌∙◌, subst}
use Rattle.std.proofs.Common.{slice_get, slice_set, unwrap_or, arith}
use Rattle.std.specs.Prelude.{⊤}
use Rattle.ceal_base.specs.Block.{Blocks}
use Rattle.ceal_base.specs.Fitting.{kind_at, fits_kind, fits_field}
use Rattle.ceal_base.specs.declared.kind.FieldKind.{FieldKind}
use Rattle.ceal_base.specs.declared.kind.Kind.{Kind}
use Rattle.ceal_base.specs.declared.kind.Kind.TheVariants.{Ptr, ModInt, ModPtr}
use Rattle.ceal_base.specs.declared.kind.Shape.{Shape}
use Rattle.ceal_base.specs.declared.kind.Shape.TheVariants.{Struct, ModInt as OneInt, ModPtr as OnePtr}
use Rattle.ceal_base.specs.declared.word.Place.{Place}
use Rattle.ceal_base.specs.declared.word.Word.{Word}
use Rattle.ceal_code.proofs.TypedCode.ShapesKept.{ShapesKept, fits-kept}
use Rattle.ceal_code.proofs.Words.SameIsEqual.{both, nat-same}
use Rattle.ceal_code.proofs.TypedCode.TypedExpressions.{EnvTyped}
use Rattle.ceal_code.proofs.TypedCode.TypedBlocks.{KeyTyped, unit-valid}
use Rattle.ceal_code.specs.Program.{Unit as CodeUnit, Code}
use Rattle.ceal_code.specs.Replay.{shape_of}
use Rattle.ceal_code.specs.Running.{NoTail}
use Rattle.ceal_code.specs.Step.{Stack, Empty, Run, Act, Over, Quiet, Makes, Writes, Reads, unit_at, command_at, kinds_of, bound, entered, words_after_read}
use Rattle.ceal_code.specs.Valid.{command_ok, onward, path_ok, paths_ok, all_forward, is_tree, with_params, is_core, below as all_below, body_ok, unit_ok, valid}
use Rattle.ceal_code.specs.Value.{Variables, set, is_cell}
use Rattle.ceal_code.specs.declared.command.Cmd.{Cmd}
use Rattle.ceal_code.specs.declared.command.Cmd.TheVariants.{Move, Tick, Alloc, Modref, Write, If, Done, Tail, Read, Call}
use Rattle.ceal_code.specs.declared.expr.VarId.{VarId}

-- which variables are known after a parameter, or an assignment
pub known-set : (known : List Bool) (v u : ℕ) → unwrap_or (slice_get (slice_set known v true) u) false ≡ true → (u ≡ v) ⊎ (unwrap_or (slice_get known u) false ≡ true)
known-set [] v u h = inr h
known-set (b ∷ known) zero zero h = inl refl
known-set (b ∷ known) zero (suc u) h = inr h
known-set (b ∷ known) (suc v) zero h = inr h
known-set (b ∷ known) (suc v) (suc u) h = go (known-set known v u h)
  where
    go : (u ≡ v) ⊎ (unwrap_or (slice_get known u) false ≡ true) → (suc u ≡ suc v) ⊎ (unwrap_or (slice_get known u) false ≡ true)
    go (inl e) = inl (ap suc e)
    go (inr e) = inr e

none-known : (n u : ℕ) → unwrap_or (slice_get (replicate n false) u) false ≡ true → ⊥
none-known zero u h = absurd (grind (arith, h))
none-known (suc n) zero h = absurd (grind (arith, h))
none-known (suc n) (suc u) h = none-known n u h

-- the variable is one of the parameters
abbrev Among : ℕ → List VarId → Type 0
Among v [] = ⊥
Among v (p ∷ ps) = (v ≡ p.0) ⊎ Among v ps

known-params : (known : List Bool) (ps : List VarId) (v : ℕ) → unwrap_or (slice_get (with_params known ps) v) false ≡ true → Among v ps ⊎ (unwrap_or (slice_get known v) false ≡ true)
unfolding with_params
known-params known [] v h = inr h
known-params known (p ∷ ps) v h = go (known-params (slice_set known p.0 true) ps v h)
  where
    first : (v ≡ p.0) ⊎ (unwrap_or (slice_get known v) false ≡ true) → ((v ≡ p.0) ⊎ Among v ps) ⊎ (unwrap_or (slice_get known v) false ≡ true)
    first (inl e) = inl (inl e)
    first (inr e) = inr e

    go : Among v ps ⊎ (unwrap_or (slice_get (slice_set known p.0 true) v) false ≡ true) → ((v ≡ p.0) ⊎ Among v ps) ⊎ (unwrap_or (slice_get known v) false ≡ true)
    go (inl a) = inl (inr a)
    go (inr k) = first (known-set known p.0 v k)

-- the kind of a variable that points to a new block of this shape, or to its one modifiable
abbrev pub pointer_kind : Shape → Kind
pointer_kind (Struct s) = Ptr s
pointer_kind OneInt = ModInt
pointer_kind (OnePtr s) = ModPtr s

module _ (code : Code) (m : Blocks) where
  -- one word for each parameter, which fits its kind
  abbrev pub ParamsTyped : List Kind → List VarId → List Word → Type 0
  ParamsTyped kinds [] words = ⊤
  ParamsTyped kinds (p ∷ ps) [] = ⊥
  ParamsTyped kinds (p ∷ ps) (w ∷ ws) = ((kind : Kind) → slice_get kinds p.0 ≡ Some kind → fits_kind code.structs m kind w ≡ true) × ParamsTyped kinds ps ws

  set-fits : (kinds : List Kind) (env : Variables) (n v : ℕ) (w : Word) (kind : Kind) → slice_get kinds v ≡ Some kind
      → ((kind : Kind) → slice_get kinds n ≡ Some kind → fits_kind code.structs m kind w ≡ true)
      → ((v ≡ n → ⊥) → fits_kind code.structs m kind (env v) ≡ true) → fits_kind code.structs m kind (set env n w v) ≡ true
  unfolding set
  set-fits kinds env n v w kind e h g = go (v == n) refl
    where
      go : (t : Bool) → (v == n) ≡ t → fits_kind code.structs m kind (if t then w else env v) ≡ true
      go true i = let j : v ≡ n = nat-same v n i in h kind (rw j at e)
      go false i = g (λ j. grind (arith, i, j))

  pub set-typed : (kinds : List Kind) (known : List Bool) (env : Variables) (n : ℕ) (w : Word) → EnvTyped code.structs m kinds known env
      → ((kind : Kind) → slice_get kinds n ≡ Some kind → fits_kind code.structs m kind w ≡ true)
      → EnvTyped code.structs m kinds (slice_set known n true) (set env n w)
  set-typed kinds known env n w envs h v kind e k = set-fits kinds env n v w kind e h (λ apart. go apart (known-set known n v k))
    where
      go : (v ≡ n → ⊥) → (v ≡ n) ⊎ (unwrap_or (slice_get known v) false ≡ true) → fits_kind code.structs m kind (env v) ≡ true
      go apart (inl i) = absurd (apart i)
      go apart (inr i) = envs v kind e i

  bound-fits : (kinds : List Kind) (ps : List VarId) (ws : List Word) → ParamsTyped kinds ps ws → (v : ℕ) (kind : Kind) → slice_get kinds v ≡ Some kind → Among v ps
      → fits_kind code.structs m kind (bound ps ws v) ≡ true
  unfolding bound
  bound-fits kinds [] ws h v kind e a = absurd a
  bound-fits kinds (p ∷ ps) [] h v kind e a = absurd h
  bound-fits kinds (p ∷ ps) (w ∷ ws) h v kind e a = set-fits kinds (bound ps ws) p.0 v w kind e h.0 (λ apart. go (bound-fits kinds ps ws h.1 v kind e) apart a)
    where
      go : (Among v ps → fits_kind code.structs m kind (bound ps ws v) ≡ true) → (v ≡ p.0 → ⊥) → (v ≡ p.0) ⊎ Among v ps → fits_kind code.structs m kind (bound ps ws v) ≡ true
      go again apart (inl i) = absurd (apart i)
      go again apart (inr a) = again a

  bound-typed : (kinds : List Kind) (n : ℕ) (ps : List VarId) (ws : List Word) → ParamsTyped kinds ps ws → EnvTyped code.structs m kinds (with_params (replicate n false) ps) (bound ps ws)
  bound-typed kinds n ps ws h v kind e k = go (known-params (replicate n false) ps v k)
    where
      go : Among v ps ⊎ (unwrap_or (slice_get (replicate n false) v) false ≡ true) → fits_kind code.structs m kind (bound ps ws v) ≡ true
      go (inl a) = bound-fits kinds ps ws h v kind e a
      go (inr i) = absurd (none-known n v i)

  -- a frame: its unit is there, the path from its index is right, and the variables that are known there fit
  pub record FrameTyped (u i : ℕ) (env : Variables) : Type 0 where
    pub unit : CodeUnit
    pub there : slice_get code.units u ≡ Some unit
    pub known : List Bool
    pub stepped : Bool
    pub fuel : ℕ
    pub path : paths_ok code unit.function unit.body fuel i known stepped ≡ true
    pub envs : EnvTyped code.structs m (kinds_of code unit.function) known env

  abbrev pub StackTyped : Stack → Type 0
  StackTyped Empty = ⊤
  StackTyped (Run u i env below) = FrameTyped u i env × StackTyped below

  -- a frame at its command
  pub record AtCommand (u i : ℕ) (env : Variables) (c : Cmd) : Type 0 where
    pub unit : CodeUnit
    pub there : slice_get code.units u ≡ Some unit
    pub at : slice_get unit.body i ≡ Some c
    pub known : List Bool
    pub stepped : Bool
    pub fuel : ℕ
    pub ok : command_ok code unit.function known stepped c ≡ true
    pub onward' : onward (paths_ok code unit.function unit.body fuel) c i known ≡ true
    pub envs : EnvTyped code.structs m (kinds_of code unit.function) known env

  pub at-command : (u i : ℕ) (env : Variables) → FrameTyped u i env → (c : Cmd) → command_at code u i ≡ c → AtCommand u i env c
  unfolding paths_ok
  at-command u i env f c e = go f.fuel f.path
    where
      found : (o : Option Cmd) (n : ℕ) → slice_get f.unit.body i ≡ o → path_ok code f.unit.function (paths_ok code f.unit.function f.unit.body n) o i f.known f.stepped ≡ true → AtCommand u i env c
      found None n g h = absurd (grind (arith, h))
      found (Some d) n g h =
          let k = both (command_ok code f.unit.function f.known f.stepped d) (onward (paths_ok code f.unit.function f.unit.body n) d i f.known) h in
          let is : d ≡ c = sym (rw (f.there, g)) ∙ e in
          subst (AtCommand u i env) is (record { unit = f.unit; there = f.there; at = g; known = f.known; stepped = f.stepped; fuel = n; ok = k.0; onward' = k.1; envs = f.envs })

      go : (n : ℕ) → paths_ok code f.unit.function f.unit.body n i f.known f.stepped ≡ true → AtCommand u i env c
      go zero h = absurd (grind (arith, h))
      go (suc n) h = found (slice_get f.unit.body i) n refl h

module _ (code : Code) (m m' : Blocks) (kept : ShapesKept m m') where
  frame-kept : (u i : ℕ) (env : Variables) → FrameTyped code m u i env → FrameTyped code m' u i env
  frame-kept u i env f = record {
    unit = f.unit;
    there = f.there;
    known = f.known;
    stepped = f.stepped;
    fuel = f.fuel;
    path = f.path;
    envs = λ v kind e k. fits-kept code.structs m m' kept kind (env v) (f.envs v kind e k);
  }

  pub stack-kept : (st : Stack) → StackTyped code m st → StackTyped code m' st
  stack-kept Empty h = h
  stack-kept (Run u i env st) h = (frame-kept u i env h.0, stack-kept st h.1)

module _ (code : Code) (m : Blocks) where
  -- a place of the memory whose modifiable takes the word
  pub record Takes (p : Place) (value : Word) : Type 0 where
    pub kind : FieldKind
    pub there : kind_at code.structs m p ≡ Some kind
    pub cell : is_cell (Some kind) ≡ true
    pub fits' : fits_field code.structs m kind value ≡ true

  -- a place of the memory, whose content the unit takes
  pub record Gives (p : Place) (F : Word → Type 0) : Type 0 where
    pub kind : FieldKind
    pub there : kind_at code.structs m p ≡ Some kind
    pub cell : is_cell (Some kind) ≡ true
    pub goes : (w : Word) → fits_field code.structs m kind w ≡ true → F w

  abbrev pub ActTyped : Act → Type 0
  ActTyped Over = ⊤
  ActTyped (Quiet after) = StackTyped code m after
  ActTyped (Makes key v u i env st) =
      KeyTyped code m key × ((m' : Blocks) (w : Word) → ShapesKept m m' → fits_kind code.structs m' (pointer_kind (shape_of code key)) w ≡ true → StackTyped code m' (Run u i (set env v w) st))
  ActTyped (Writes p value after) = Takes p value × StackTyped code m after
  ActTyped (Reads p u v args st) = Gives p (λ w. StackTyped code m (entered code u.0 (words_after_read code u.0 v args w) st))

abbrev begun : Code → CodeUnit → List Bool
begun code unit = with_params (replicate (length (kinds_of code unit.function)) false) unit.params

module _ (code : Code) (unit : CodeUnit) (h : unit_ok code unit ≡ true) where
  abbrev unit-paths : Bool
  unit-paths = paths_ok code unit.function unit.body (length unit.body) 0 (begun code unit) false

  unit-body : ((all_forward unit.body 0 && is_tree unit.body) ≡ true) × (unit-paths ≡ true)
  unfolding unit_ok
  unit-body =
      let p = both (is_core (slice_get code.functions unit.function)) (all_below (length (kinds_of code unit.function)) unit.params && body_ok code unit.function unit.params unit.body) h in
      let q = both (all_below (length (kinds_of code unit.function)) unit.params) (body_ok code unit.function unit.params unit.body) p.1 in
      both (all_forward unit.body 0 && is_tree unit.body) unit-paths q.1

  pub unit-path : unit-paths ≡ true
  unit-path = unit-body.1

  pub unit-tree : (all_forward unit.body 0 ≡ true) × (is_tree unit.body ≡ true)
  unit-tree = both (all_forward unit.body 0) (is_tree unit.body) unit-body.0

module _ (code : Code) (ok : valid code ≡ true) (m : Blocks) where
  -- a unit at its beginning, on words that fit its parameters
  pub enter : (u : ℕ) (unit : CodeUnit) (ws : List Word) (st : Stack) → slice_get code.units u ≡ Some unit → ParamsTyped code m (kinds_of code unit.function) unit.params ws → StackTyped code m st
      → StackTyped code m (entered code u ws st)
  enter u unit ws st e h k = (frame, k)
    where
      frame : FrameTyped code m u 0 (bound (unit_at code u).params ws)
      frame = rw e (record {
        unit = unit;
        there = e;
        known = begun code unit;
        stepped = false;
        fuel = length unit.body;
        path = unit-path code unit (unit-valid code ok u unit e);
        envs = bound-typed code m (kinds_of code unit.function) (length (kinds_of code unit.function)) unit.params ws h;
      })

module _ (code : Code) (ok : valid code ≡ true) where
  -- no unit begins with a tail
  first-command : (f : ℕ) (known : List Bool) (c : Cmd) → command_ok code f known false c ≡ true → NoTail c
  first-command f known (Tail w args) h = absurd (grind (arith, h))
  first-command f known (Move v e) h = tt
  first-command f known Tick h = tt
  first-command f known (Alloc v g args) h = tt
  first-command f known (Modref v shape) h = tt
  first-command f known (Write p e) h = tt
  first-command f known (If test first second) h = tt
  first-command f known Done h = tt
  first-command f known (Read v p w args) h = tt
  first-command f known (Call g args w rest) h = tt

  first-there : (unit : CodeUnit) (n : ℕ) (known : List Bool) → paths_ok code unit.function unit.body n 0 known false ≡ true → NoTail (unwrap_or (slice_get unit.body 0) Done)
  unfolding paths_ok
  first-there unit zero known h = absurd (grind (arith, h))
  first-there unit (suc n) known h = go (slice_get unit.body 0) h
    where
      go : (o : Option Cmd) → path_ok code unit.function (paths_ok code unit.function unit.body n) o 0 known false ≡ true → NoTail (unwrap_or o Done)
      go None h = tt
      go (Some c) h = first-command unit.function known c (both (command_ok code unit.function known false c) (onward (paths_ok code unit.function unit.body n) c 0 known) h).0

  pub no-tail : (w : ℕ) → w < length code.units → NoTail (command_at code w 0)
  no-tail w l = go (slice_get code.units w) refl
    where
      go : (o : Option CodeUnit) → slice_get code.units w ≡ o → NoTail (command_at code w 0)
      go None e = rw e tt
      go (Some unit) e = rw e (first-there unit (length unit.body) (begun code unit) (unit-path code unit (unit-valid code ok w unit e)))
