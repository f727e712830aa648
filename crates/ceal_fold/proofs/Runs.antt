-- Code and its folding run alike.
use Rattle.std.proofs.Common.{◌≡◌, ℕ, zero, suc, ◌+◌, ◌&&◌, Bool, true, false, if◌then◌else◌, Option, Some, None, List}
use Rattle.std.proofs.Common.{[], ◌∷◌, refl, sym, ap, ◌∙◌, subst, length, replicate, slice_get, unwrap_or, arith}
use Rattle.ceal_base.specs.Access.{holds, content_of}
use Rattle.ceal_base.specs.Block.{Block, Blocks, block_at, written_at}
use Rattle.ceal_base.specs.Finished.{Finished, with_block}
use Rattle.ceal_base.specs.Shapes.{default_of}
use Rattle.ceal_base.specs.declared.forest.Key.{Key}
use Rattle.ceal_base.specs.declared.forest.Key.TheVariants.{Init, ModInt as IntKey, ModPtr as PtrKey}
use Rattle.ceal_base.specs.declared.forest.UnitId.{UnitId}
use Rattle.ceal_base.specs.declared.typed.StructInfo.{StructInfo}
use Rattle.ceal_base.specs.declared.word.BlockId.TheVariants.{Core}
use Rattle.ceal_base.specs.declared.word.Place.{Place}
use Rattle.ceal_base.specs.declared.word.Word.{Word}
use Rattle.ceal_base.specs.declared.word.Word.TheVariants.{Num, Null, Block as BlockWord, At}
use Rattle.ceal_code.proofs.Words.SameIsEqual.{both}
use Rattle.ceal_code.proofs.TypedCode.TypedBlocks.{unit-valid}
use Rattle.ceal_code.specs.Fresh.{ran, only_over, run, fresh}
use Rattle.ceal_code.specs.Init.{made, pointer}
use Rattle.ceal_code.specs.Program.{Unit as CodeUnit, Code}
use Rattle.ceal_code.specs.Step.{Stack, Empty, Run, Act, Over, Quiet, Makes, Writes, Reads, unit_at, command_at}
use Rattle.ceal_code.specs.Step.{entry_of, entry_in, kinds_of, variable_default, bound, entered, chosen, words_after_read, woven}
use Rattle.ceal_code.specs.Step.{started, place_of, writes_at, reads_at, act, landed, stack_after_quiet_at, stack_after_quiet, acted, next}
use Rattle.ceal_code.specs.Valid.{command_ok, onward, path_ok, paths_ok, all_forward, is_tree, with_params, is_core, below as all_below, body_ok, unit_ok, valid, followers}
use Rattle.ceal_code.specs.Value.{Plain, Variables, set, expr_value, values}
use Rattle.ceal_code.specs.declared.command.Cmd.{Cmd}
use Rattle.ceal_code.specs.declared.command.Cmd.TheVariants.{Done}
use Rattle.ceal_code.specs.declared.function.FunctionCode.{FunctionCode}
use Rattle.ceal_code.specs.declared.function.FunctionCode.TheVariants.{Core as CoreFunction, Init as InitFunction}
use Rattle.ceal_fold.proofs.Bodies.{facts, facts-root}
use Rattle.ceal_fold.proofs.Forward.{forward-at}
use Rattle.ceal_fold.proofs.Simulated.{spot, FrameTied, CmdsTied, cmd-tied}
use Rattle.ceal_fold.proofs.Values.{Holds, holds-none}
use Rattle.ceal_fold.specs.Folding.{at_root, folded_command, command_or_tick, folded_commands, used_in, without_unused, folded_unit, folded_units, folded}

abbrev none : CodeUnit
none = record { function = 0; params = []; body = [] }

pub unit-folded : (structs : List StructInfo) (units : List CodeUnit) (u : ℕ)
    → unwrap_or (slice_get (folded_units structs units) u)
    (record { function = 0; params = []; body = [] }) ≡ folded_unit structs
    (unwrap_or (slice_get units u) (record { function = 0; params = []; body = [] }))
unfolding folded_units folded_commands without_unused
unit-folded structs [] u = refl
unit-folded structs (unit ∷ units) zero = refl
unit-folded structs (unit ∷ units) (suc u) = unit-folded structs units u

pub units-length : (structs : List StructInfo) (units : List CodeUnit) → length (folded_units structs units) ≡ length units
unfolding folded_units
units-length structs [] = refl
units-length structs (unit ∷ units) = ap suc (units-length structs units)

ended : (structs : List StructInfo) (i : ℕ) → unwrap_or (slice_get (folded_unit structs none).body i) Done ≡ Done
unfolding folded_commands without_unused
ended structs i = refl

-- what valid code says of a unit's body
unit-body : (code : Code) (unit : CodeUnit) → unit_ok code unit ≡ true → body_ok code unit.function unit.params unit.body ≡ true
unfolding unit_ok
unit-body code unit h =
    let p = both (is_core (slice_get code.functions unit.function)) (all_below (length (kinds_of code unit.function)) unit.params && body_ok code unit.function unit.params unit.body) h in
    (both (all_below (length (kinds_of code unit.function)) unit.params) (body_ok code unit.function unit.params unit.body) p.1).1

module _ (code : Code) (unit : CodeUnit) (h : unit_ok code unit ≡ true) where
  abbrev paths : Bool
  paths = paths_ok code unit.function unit.body (length unit.body) 0 (with_params (replicate (length (kinds_of code unit.function)) false) unit.params) false

  pub unit-forward : all_forward unit.body 0 ≡ true
  unit-forward = (both (all_forward unit.body 0) (is_tree unit.body) (both (all_forward unit.body 0 && is_tree unit.body) paths (unit-body code unit h)).0).0

  pub unit-tree : is_tree unit.body ≡ true
  unit-tree = (both (all_forward unit.body 0) (is_tree unit.body) (both (all_forward unit.body 0 && is_tree unit.body) paths (unit-body code unit h)).0).1

  pub unit-path : paths ≡ true
  unit-path = (both (all_forward unit.body 0 && is_tree unit.body) paths (unit-body code unit h)).1

module _ (code : Code) (ok : valid code ≡ true) where
  abbrev after : Code
  after = folded code

  unit-is : (u : ℕ) → unit_at after u ≡ folded_unit code.structs (unit_at code u)
  unit-is u = unit-folded code.structs code.units u

  entry-is : (f : ℕ) → entry_of after f ≡ entry_of code f
  entry-is f = go (slice_get code.functions f)
    where
      go : (o : Option FunctionCode) → entry_in after o ≡ entry_in code o
      go None = units-length code.structs code.units
      go (Some (CoreFunction name entry params)) = refl
      go (Some (InitFunction name s params body)) = units-length code.structs code.units

  default-is : (u v : ℕ) → variable_default after u v ≡ variable_default code u v
  default-is u v = ap (λ unit. default_of (slice_get (kinds_of code unit.function) v)) (unit-is u)

  words_after_read-is : (u v : ℕ) (args : List Word) (w : Word) → words_after_read after u v args w ≡ words_after_read code u v args w
  words_after_read-is u v args w = ap (λ unit. woven unit.params v w args) (unit-is u)

  pub made-is : (x : Plain) (key : Key) → made after x key ≡ made code x key
  unfolding made
  made-is x (Init f args) = refl
  made-is x IntKey = refl
  made-is x (PtrKey s) = refl

  -- the commands at which tied frames are
  pub command-tied : (u i : ℕ) (env env' : Variables) → FrameTied code ok u i env env' → CmdsTied code ok u i env env' (command_at code u i) (command_at after u i)
  unfolding paths_ok
  command-tied u i env env' (FrameTied.nowhere e) =
      let p : unit_at code u ≡ none = ap (λ o. unwrap_or o none) e in
      let a : command_at code u i ≡ Done = ap (λ unit. unwrap_or (slice_get unit.body i) Done) p in
      let b : command_at after u i ≡ Done = ap (λ unit. unwrap_or (slice_get unit.body i) Done) (unit-is u ∙ ap (folded_unit code.structs) p) ∙ ended code.structs i in
      subst (λ c. CmdsTied code ok u i env env' c (command_at after u i)) (sym a) (subst (CmdsTied code ok u i env env' Done) (sym b) CmdsTied.done)
  command-tied u i env env' (FrameTied.inside unit fuel flags stepped is path known same) = go fuel path
    where
      at : (c : Cmd) → slice_get unit.body i ≡ Some c → (n : ℕ) → onward
          (paths_ok code unit.function unit.body n) c i flags ≡ true → CmdsTied code ok u i env env'
          (command_at code u i) (command_at after u i)
      at c e n h =
          let s = spot code.structs unit.body i c (unit-tree code unit (unit-valid code ok u unit is)) e in
          let up = forward-at unit.body 0 i i c (unit-forward code unit (unit-valid code ok u unit is)) e (omega arith) in
          let p : unit_at code u ≡ unit = ap (λ o. unwrap_or o none) is in
          let a : command_at code u i ≡ c = ap (λ unit. unwrap_or (slice_get unit.body i) Done) p ∙ ap (λ o. unwrap_or o Done) e in
          let b : command_at after u i ≡ command_or_tick (used_in s.later (followers c i))
          (folded_command code.structs (facts code.structs at_root 0 unit.body i) c) = ap
          (λ unit. unwrap_or (slice_get unit.body i) Done) (unit-is u ∙ ap (folded_unit code.structs) p) ∙ ap
          (λ o. unwrap_or o Done) s.there in
          subst (λ c. CmdsTied code ok u i env env' c (command_at after u i)) (sym a)
          (subst (CmdsTied code ok u i env env' c) (sym b) (cmd-tied code ok u i env env' unit is known same s.later s.ahead c up s.here s.follow n flags h))

      found : (o : Option Cmd) (n : ℕ) → slice_get unit.body i ≡ o → path_ok code unit.function
          (paths_ok code unit.function unit.body n) o i flags stepped ≡ true → CmdsTied code ok u i env env'
          (command_at code u i) (command_at after u i)
      found None n g h = absurd (grind (arith, h))
      found (Some c) n g h =
          let k = both (command_ok code unit.function flags stepped c) (onward (paths_ok code unit.function unit.body n) c i flags) h in at c g n k.1

      go : (n : ℕ) → paths_ok code unit.function unit.body n i flags stepped ≡ true → CmdsTied code ok u i env env' (command_at code u i) (command_at after u i)
      go zero h = absurd (grind (arith, h))
      go (suc n) h = found (slice_get unit.body i) n refl h

  -- a unit at its beginning, on the same words
  enter-tied : (u : ℕ) (env : Variables) → FrameTied code ok u 0 env env
  enter-tied u env = go (slice_get code.units u) refl
    where
      go : (o : Option CodeUnit) → slice_get code.units u ≡ o → FrameTied code ok u 0 env env
      go None e = FrameTied.nowhere e
      go (Some unit) e =
          FrameTied.inside unit (length unit.body) (with_params (replicate (length (kinds_of code unit.function)) false) unit.params) false e (unit-path code unit (unit-valid code ok u unit e))
          (subst (λ k. Holds k env) (sym (facts-root code.structs unit.body)) (holds-none env)) (λ v m. refl)

  pub data Tied : Stack → Stack → Type 0 where
    empty : Tied Empty Empty
    frame : {u i : ℕ} {env env' : Variables} {below below' : Stack} → FrameTied code ok u i env env' → Tied below below' → Tied (Run u i env below) (Run u i env' below')

  pub entered-tied : (u : ℕ) (words : List Word) (below below' : Stack) → Tied below below' → Tied (entered code u words below) (entered after u words below')
  entered-tied u words below below' t =
      let e : (unit_at after u).params ≡ (unit_at code u).params = ap (λ unit. unit.params) (unit-is u) in
      rw e (Tied.frame (enter-tied u (bound (unit_at code u).params words)) t)

  pub data ActsTied : Act → Act → Type 0 where
    over : ActsTied Over Over
    quiet : {st st' : Stack} → Tied st st' → ActsTied (Quiet st) (Quiet st')
    makes : {key : Key} {v u i : ℕ} {env env' : Variables} {below below' : Stack}
        → ((w : Word) → Tied (Run u i (set env v w) below) (Run u i (set env' v w) below')) → ActsTied (Makes key v u i env below) (Makes key v u i env' below')
    writes : {p : Place} {value : Word} {st st' : Stack} → Tied st st' → ActsTied (Writes p value st) (Writes p value st')
    reads : {p : Place} {u : UnitId} {v : ℕ} {args : List Word} {below below' : Stack} → Tied below below' → ActsTied (Reads p u v args below) (Reads p u v args below')

  writes-tied : (w value : Word) (st st' : Stack) → Tied st st' → ActsTied (writes_at (place_of w) value st) (writes_at (place_of w) value st')
  writes-tied (Num n) value st st' t = ActsTied.quiet t
  writes-tied Null value st st' t = ActsTied.quiet t
  writes-tied (BlockWord b) value st st' t = ActsTied.quiet t
  writes-tied (At p) value st st' t = ActsTied.writes t

  -- a unit continues with the same word
  pub words_after_read-tied : (u v : ℕ) (args : List Word) (w w' : Word) → w' ≡ w → (st st' : Stack) → Tied st st' → Tied
      (entered code u (words_after_read code u v args w) st) (entered after u (words_after_read after u v args w') st')
  words_after_read-tied u v args w w' e st st' t =
      subst (λ words. Tied (entered code u (words_after_read code u v args w) st) (entered after u words st')) (sym (words_after_read-is u v args w' ∙ ap (words_after_read code u v args) e))
      (entered-tied u (words_after_read code u v args w) st st' t)

  reads-tied : (w : Word) (u : UnitId) (v : ℕ) (args : List Word) (st st' : Stack) → Tied st st' → ActsTied (reads_at code (place_of w) u v args st) (reads_at after (place_of w) u v args st')
  reads-tied (Num n) u v args st st' t = ActsTied.quiet (words_after_read-tied u.0 v args (variable_default code u.0 v) (variable_default after u.0 v) (default-is u.0 v) st st' t)
  reads-tied Null u v args st st' t = ActsTied.quiet (words_after_read-tied u.0 v args (variable_default code u.0 v) (variable_default after u.0 v) (default-is u.0 v) st st' t)
  reads-tied (BlockWord b) u v args st st' t = ActsTied.quiet (words_after_read-tied u.0 v args (variable_default code u.0 v) (variable_default after u.0 v) (default-is u.0 v) st st' t)
  reads-tied (At p) u v args st st' t = ActsTied.reads t

  module _ (x : Plain) where
    act-tied : (u i : ℕ) (env env' : Variables) {c c' : Cmd} (below below' : Stack)
        → CmdsTied code ok u i env env' c c' → Tied below below' → ActsTied (act code x c u i env below)
        (act after x c' u i env' below')
    act-tied u i env env' below below' (CmdsTied.move h) t = ActsTied.quiet (Tied.frame (h x) t)
    act-tied u i env env' below below' (CmdsTied.dropped h) t = ActsTied.quiet (Tied.frame (h x) t)
    act-tied u i env env' below below' (CmdsTied.tick h) t = ActsTied.quiet (Tied.frame h t)
    act-tied u i env env' below below' (CmdsTied.alloc a h) t = rw (a x) (ActsTied.makes (λ w. Tied.frame (h w) t))
    act-tied u i env env' below below' (CmdsTied.modref h) t = ActsTied.makes (λ w. Tied.frame (h w) t)
    act-tied u i env env' below below' (CmdsTied.write {p = p} {e = e} a b h) t =
        rw (a x, b x) (writes-tied (expr_value code.structs x env p) (expr_value code.structs x env e) (Run u (i + 1) env below) (Run u (i + 1) env' below') (Tied.frame h t))
    act-tied u i env env' below below' (CmdsTied.test {t = e} {first = first} {second = second} a h k) t = rw (a x) (ActsTied.quiet (Tied.frame (go (holds (expr_value code.structs x env e))) t))
      where
        go : (b : Bool) → FrameTied code ok u (if b then first else second) env env'
        go true = h
        go false = k
    act-tied u i env env' below below' CmdsTied.done t = ActsTied.over
    act-tied u i env env' below below' (CmdsTied.tail a) t = ActsTied.over
    act-tied u i env env' below below' (CmdsTied.read {v = v} {p = p} {w = w} {args = args} a b) t =
        rw (a x, b x) (reads-tied (expr_value code.structs x env p) w v.0 (values code.structs x env args) below below' t)
    act-tied u i env env' below below' (CmdsTied.call {g = g} {args = args} {w = w} {rest = rest} a b) t =
        rw (a x, b x, entry-is g)
        (ActsTied.quiet (entered-tied (entry_of code g) (values code.structs x env args)
        (entered code w.0 (values code.structs x env rest) below)
        (entered after w.0 (values code.structs x env rest) below')
        (entered-tied w.0 (values code.structs x env rest) below below' t)))

    landed-tied : (u i : ℕ) (env env' : Variables) {c c' : Cmd} → CmdsTied code ok u i env env' c c' →
        (a a' rest rest' : Stack) → Tied a a' → Tied rest rest' → Tied (landed c a rest) (landed c' a' rest')
    landed-tied u i env env' (CmdsTied.move h) a a' rest rest' s t = s
    landed-tied u i env env' (CmdsTied.dropped h) a a' rest rest' s t = s
    landed-tied u i env env' (CmdsTied.tick h) a a' rest rest' s t = s
    landed-tied u i env env' (CmdsTied.alloc b h) a a' rest rest' s t = s
    landed-tied u i env env' (CmdsTied.modref h) a a' rest rest' s t = s
    landed-tied u i env env' (CmdsTied.write b d h) a a' rest rest' s t = s
    landed-tied u i env env' (CmdsTied.test b h k) a a' rest rest' s t = s
    landed-tied u i env env' CmdsTied.done a a' rest rest' s t = t
    landed-tied u i env env' (CmdsTied.tail b) a a' rest rest' s t = t
    landed-tied u i env env' (CmdsTied.read b d) a a' rest rest' s t = s
    landed-tied u i env env' (CmdsTied.call b d) a a' rest rest' s t = s

    tail-tied : (w : ℕ) (words : List Word) (below below' rest rest' : Stack) → Tied below below' → Tied rest rest'
        → Tied (landed (command_at code w 0) (entered code w words below) rest) (landed (command_at after w 0) (entered after w words below') rest')
    tail-tied w words below below' rest rest' t r =
        let env = bound (unit_at code w).params words in
        landed-tied w 0 env env (command-tied w 0 env env (enter-tied w env)) (entered code w words below) (entered after w words below') rest rest'
        (entered-tied w words below below' t) r

    settled_at-tied : (u i : ℕ) (env env' : Variables) {c c' : Cmd} (below below' rest rest' : Stack)
        → CmdsTied code ok u i env env' c c' → FrameTied code ok u i env env' → Tied below below' → Tied rest rest'
        → Tied (stack_after_quiet_at code x c u i env below rest) (stack_after_quiet_at after x c' u i env' below' rest')
    settled_at-tied u i env env' below below' rest rest' (CmdsTied.move h) f t r = Tied.frame f t
    settled_at-tied u i env env' below below' rest rest' (CmdsTied.dropped h) f t r = Tied.frame f t
    settled_at-tied u i env env' below below' rest rest' (CmdsTied.tick h) f t r = Tied.frame f t
    settled_at-tied u i env env' below below' rest rest' (CmdsTied.alloc b h) f t r = Tied.frame f t
    settled_at-tied u i env env' below below' rest rest' (CmdsTied.modref h) f t r = Tied.frame f t
    settled_at-tied u i env env' below below' rest rest' (CmdsTied.write b d h) f t r = Tied.frame f t
    settled_at-tied u i env env' below below' rest rest' (CmdsTied.test b h k) f t r = Tied.frame f t
    settled_at-tied u i env env' below below' rest rest' CmdsTied.done f t r = r
    settled_at-tied u i env env' below below' rest rest' (CmdsTied.tail {w = w} {args = args} b) f t r =
        rw (b x) (tail-tied w.0 (values code.structs x env args) below below' rest rest' t r)
    settled_at-tied u i env env' below below' rest rest' (CmdsTied.read b d) f t r = Tied.frame f t
    settled_at-tied u i env env' below below' rest rest' (CmdsTied.call b d) f t r = Tied.frame f t

    stack_after_quiet-tied : {st st' : Stack} → Tied st st' → Tied (stack_after_quiet code x st) (stack_after_quiet after x st')
    unfolding stack_after_quiet
    stack_after_quiet-tied Tied.empty = Tied.empty
    stack_after_quiet-tied (Tied.frame {u = u} {i = i} {env = env} {env' = env'} {below = below} {below' = below'} f t) =
        settled_at-tied u i env env' below below' (stack_after_quiet code x below) (stack_after_quiet after x below') (command-tied u i env env' f) f t (stack_after_quiet-tied t)

    acted-tied : {st st' : Stack} → Tied st st' → ActsTied (acted code x st) (acted after x st')
    acted-tied Tied.empty = ActsTied.over
    acted-tied (Tied.frame {u = u} {i = i} {env = env} {env' = env'} {below = below} {below' = below'} f t) = act-tied u i env env' below below' (command-tied u i env env' f) t

    pub next-tied : (st st' : Stack) → Tied st st' → ActsTied (next code x st) (next after x st')
    unfolding next
    next-tied st st' t = acted-tied (stack_after_quiet-tied t)

  over-same : (steps : ℕ) (m : Blocks) {a a' : Act} → ActsTied a a' → only_over steps m a' ≡ only_over steps m a
  over-same steps m ActsTied.over = refl
  over-same steps m (ActsTied.quiet t) = refl
  over-same steps m (ActsTied.makes t) = refl
  over-same steps m (ActsTied.writes t) = refl
  over-same steps m (ActsTied.reads t) = refl

  ran-same : (again again' : Blocks → Stack → Option Finished) → ((m : Blocks) (st st' : Stack) → Tied st st' → again' m st' ≡ again m st) → (steps : ℕ) (m : Blocks) {a a' : Act} → ActsTied a a'
      → ran after again' steps m a' ≡ ran code again steps m a
  ran-same again again' h steps m ActsTied.over = refl
  ran-same again again' h steps m (ActsTied.quiet {st = st} {st' = st'} t) = h m st st' t
  ran-same again again' h steps m (ActsTied.makes {key = key} {v = v} {u = u} {i = i} {env = env} {env' = env'} {below = below} {below' = below'} t) =
      let w = pointer key (Core (length m.made)) in
      ap (λ b. again' (with_block m b) (Run u i (set env' v w) below')) (made-is (block_at m) key)
      ∙ h (with_block m (made code (block_at m) key)) (Run u i (set env v w) below) (Run u i (set env' v w) below') (t w)
  ran-same again again' h steps m (ActsTied.writes {p = p} {value = value} {st = st} {st' = st'} t) = h (written_at m p.block p.field value) st st' t
  ran-same again again' h steps m (ActsTied.reads {p = p} {u = u} {v = v} {args = args} {below = below} {below' = below'} t) =
      let w = content_of m (At p) (variable_default code u.0 v) in
      let w' = content_of m (At p) (variable_default after u.0 v) in
      h m (entered code u.0 (words_after_read code u.0 v args w) below) (entered after u.0 (words_after_read after u.0 v args w') below')
      (words_after_read-tied u.0 v args w w' (ap (content_of m (At p)) (default-is u.0 v)) below below' t)

  run-same : (fuel steps : ℕ) (m : Blocks) (st st' : Stack) → Tied st st' → run after fuel steps m st' ≡ run code fuel steps m st
  unfolding run
  run-same zero steps m st st' t = over-same steps m (next-tied (block_at m) st st' t)
  run-same (suc fuel) steps m st st' t =
      ran-same (run code fuel (steps + 1)) (run after fuel (steps + 1)) (λ m st st' t. run-same fuel (steps + 1) m st st' t) steps m (next-tied (block_at m) st st' t)

  pub started-tied : (f : ℕ) (args : List Word) → Tied (started code f args) (started after f args)
  started-tied f args =
      let u = entry_of code f in
      let e : (unit_at after u).params ≡ (unit_at code u).params = ap (λ unit. unit.params) (unit-is u) in
      let words : List Word = chosen (unit_at code u).params args in
      subst (λ w. Tied (started code f args) (entered after w (chosen (unit_at after w).params args) Empty)) (sym (entry-is f))
      (subst (λ ps. Tied (started code f args) (entered after u (chosen ps args) Empty)) (sym e) (entered-tied u words Empty Empty Tied.empty))

  -- the folding runs as the code does
  pub fresh-same : (f : ℕ) (args : List Word) (inputs : List Block) (fuel : ℕ) → fresh after f args inputs fuel ≡ fresh code f args inputs fuel
  unfolding fresh
  fresh-same f args inputs fuel = run-same fuel 0 (record { inputs = inputs; made = [] }) (started code f args) (started after f args) (started-tied f args)
