-- Valid code is never stuck: each state of a run is typed, and a typed state continues or is the end.
use Rattle.std.proofs.Common.{◌≡◌, ℕ, zero, suc, ◌+◌, ◌<◌, ◌==◌, ◌&&◌, nat_lt, Bool, true, false, Option, Some, None, List, [], ◌∷◌, ◌++◌, length, refl, sym, ap, ◌∙◌, subst, slice_get, slice_set}
use Rattle.std.proofs.Common.{arith}
use Rattle.std.specs.List.{list_all}
use Rattle.std.specs.Prelude.{⊤}
use Rattle.ceal_base.specs.Access.{word_in, content_of}
use Rattle.ceal_base.specs.Block.{Block, Blocks, block_at, written_at}
use Rattle.ceal_base.specs.Finished.{with_block}
use Rattle.ceal_base.specs.Fitting.{kind_in, fits_kind, fits_field, words_fit, fields_fit, block_fits, memory_fits, inputs_fit}
use Rattle.ceal_base.specs.Kinds.{same_kind}
use Rattle.ceal_base.specs.Operators.{same_block}
use Rattle.ceal_base.specs.Shapes.{kinds_of_shape}
use Rattle.ceal_base.specs.declared.forest.Key.{Key}
use Rattle.ceal_base.specs.declared.forest.Key.TheVariants.{Init, ModInt as IntKey, ModPtr as PtrKey}
use Rattle.ceal_base.specs.declared.forest.UnitId.{UnitId}
use Rattle.ceal_base.specs.declared.kind.FieldKind.{FieldKind}
use Rattle.ceal_base.specs.declared.kind.Kind.{Kind}
use Rattle.ceal_base.specs.declared.kind.Kind.TheVariants.{Ptr}
use Rattle.ceal_base.specs.declared.kind.Shape.TheVariants.{Struct}
use Rattle.ceal_base.specs.declared.typed.StructInfo.{StructInfo}
use Rattle.ceal_base.specs.declared.word.BlockId.{BlockId}
use Rattle.ceal_base.specs.declared.word.BlockId.TheVariants.{Input, Core}
use Rattle.ceal_base.specs.declared.word.Place.{Place}
use Rattle.ceal_base.specs.declared.word.Word.{Word}
use Rattle.ceal_base.specs.declared.word.Word.TheVariants.{Block as BlockWord, At}
use Rattle.ceal_code.proofs.TypedCode.FittingWords.{input-fits}
use Rattle.ceal_code.proofs.TypedCode.ShapesKept.{fields-kept, kept-written, kept-grown}
use Rattle.ceal_code.proofs.Replay.MemoryChanges.{altered, written-here, written-other, get-push_other, grown-here, made-shape}
use Rattle.ceal_code.proofs.Words.SameIsEqual.{both, nat-same, nat-refl, some-same, none-some, block-same, both-true}
use Rattle.ceal_code.proofs.Words.RowKinds.{kind-same}
use Rattle.ceal_code.proofs.TypedCode.TypedExpressions.{MemoryTyped}
use Rattle.ceal_code.proofs.TypedCode.TypedActs.{StepCommand}
use Rattle.ceal_code.proofs.TypedCode.TypedCommands.{act-typed, stack-there, tail-typed}
use Rattle.ceal_code.proofs.TypedCode.TypedBlocks.{KeyTyped, InitTyped, function-valid, fields-set, word-at, made-fits}
use Rattle.ceal_code.proofs.TypedCode.TypedStack.{pointer_kind, ParamsTyped, FrameTyped, StackTyped, at-command, stack-kept, Takes, Gives, ActTyped, enter}
use Rattle.ceal_code.specs.Fitting.{args_fit, Fits}
use Rattle.ceal_code.specs.Init.{made, pointer}
use Rattle.ceal_code.specs.Program.{Unit as CodeUnit, Code}
use Rattle.ceal_code.specs.Replay.{shape_of}
use Rattle.ceal_code.specs.Running.{Steps, Reaches, GoesOn, NotStuck}
use Rattle.ceal_code.specs.Step.{Stack, Empty, Run, Act, Over, Quiet, Makes, Writes, Reads, unit_at, command_at, entry_of, kinds_of, variable_default, entered, chosen, started, words_after_read}
use Rattle.ceal_code.specs.Step.{place_of, writes_at, reads_at, act, landed, stack_after_quiet_at, stack_after_quiet, acted, next}
use Rattle.ceal_code.specs.Valid.{is_prefix, kinds_ok, below as all_below, entry_ok, valid}
use Rattle.ceal_code.specs.Value.{Plain, Variables, set, expr_value, values}
use Rattle.ceal_code.specs.declared.command.Cmd.{Cmd}
use Rattle.ceal_code.specs.declared.command.Cmd.TheVariants.{Move, Tick, Alloc, Modref, Write, If, Done, Tail, Read, Call}
use Rattle.ceal_code.specs.declared.expr.VarId.{VarId}
use Rattle.ceal_code.specs.declared.function.FunctionCode.{FunctionCode}
use Rattle.ceal_code.specs.declared.function.FunctionCode.TheVariants.{Core as CoreFunction, Init as InitFunction}

-- the stack is at a command that takes a step, or nothing is left
abbrev Ready : Code → Stack → Type 0
Ready code Empty = ⊤
Ready code (Run u i env below) = StepCommand (command_at code u i)

module _ (code : Code) (x : Plain) where
  landed-ready : (w : ℕ) (ws : List Word) (below rest : Stack) → Ready code rest → (c : Cmd) → command_at code w 0 ≡ c → Ready code (landed c (entered code w ws below) rest)
  landed-ready w ws below rest r Done e = r
  landed-ready w ws below rest r (Tail v args) e = r
  landed-ready w ws below rest r (Move v a) e = subst StepCommand (sym e) tt
  landed-ready w ws below rest r Tick e = subst StepCommand (sym e) tt
  landed-ready w ws below rest r (Alloc v g args) e = subst StepCommand (sym e) tt
  landed-ready w ws below rest r (Modref v shape) e = subst StepCommand (sym e) tt
  landed-ready w ws below rest r (Write p a) e = subst StepCommand (sym e) tt
  landed-ready w ws below rest r (If test first second) e = subst StepCommand (sym e) tt
  landed-ready w ws below rest r (Read v p z args) e = subst StepCommand (sym e) tt
  landed-ready w ws below rest r (Call g args z more) e = subst StepCommand (sym e) tt

  settled_at-ready : (u i : ℕ) (env : Variables) (below rest : Stack) → Ready code rest → (c : Cmd) → command_at code u i ≡ c → Ready code (stack_after_quiet_at code x c u i env below rest)
  settled_at-ready u i env below rest r Done e = r
  settled_at-ready u i env below rest r (Tail w args) e = landed-ready w.0 (values code.structs x env args) below rest r (command_at code w.0 0) refl
  settled_at-ready u i env below rest r (Move v a) e = subst StepCommand (sym e) tt
  settled_at-ready u i env below rest r Tick e = subst StepCommand (sym e) tt
  settled_at-ready u i env below rest r (Alloc v g args) e = subst StepCommand (sym e) tt
  settled_at-ready u i env below rest r (Modref v shape) e = subst StepCommand (sym e) tt
  settled_at-ready u i env below rest r (Write p a) e = subst StepCommand (sym e) tt
  settled_at-ready u i env below rest r (If test first second) e = subst StepCommand (sym e) tt
  settled_at-ready u i env below rest r (Read v p z args) e = subst StepCommand (sym e) tt
  settled_at-ready u i env below rest r (Call g args z more) e = subst StepCommand (sym e) tt

  stack_after_quiet-ready : (st : Stack) → Ready code (stack_after_quiet code x st)
  unfolding stack_after_quiet
  stack_after_quiet-ready Empty = tt
  stack_after_quiet-ready (Run u i env below) = settled_at-ready u i env below (stack_after_quiet code x below) (stack_after_quiet-ready below) (command_at code u i) refl

  next-acted : (st s : Stack) → stack_after_quiet code x st ≡ s → next code x st ≡ acted code x s
  unfolding next
  next-acted st s e = ap (acted code x) e

-- a step, and not the end
abbrev IsStep : Act → Type 0
IsStep Over = ⊥
IsStep (Quiet after) = ⊤
IsStep (Makes key v u i env below) = ⊤
IsStep (Writes p value after) = ⊤
IsStep (Reads p u v args below) = ⊤

write-step : (o : Option Place) (value : Word) (after : Stack) → IsStep (writes_at o value after)
write-step None value after = tt
write-step (Some p) value after = tt

read-step : (code : Code) (o : Option Place) (u : UnitId) (v : ℕ) (args : List Word) (below : Stack) → IsStep (reads_at code o u v args below)
read-step code None u v args below = tt
read-step code (Some p) u v args below = tt

act-step : (code : Code) (x : Plain) (u i : ℕ) (env : Variables) (below : Stack) (c : Cmd) → StepCommand c → IsStep (act code x c u i env below)
act-step code x u i env below Done s = s
act-step code x u i env below (Tail w args) s = s
act-step code x u i env below (Move v a) s = tt
act-step code x u i env below Tick s = tt
act-step code x u i env below (Alloc v g args) s = tt
act-step code x u i env below (Modref v shape) s = tt
act-step code x u i env below (Write p a) s = write-step (place_of (expr_value code.structs x env p)) (expr_value code.structs x env a) (Run u (i + 1) env below)
act-step code x u i env below (If test first second) s = tt
act-step code x u i env below (Read v p w args) s = read-step code (place_of (expr_value code.structs x env p)) w v.0 (values code.structs x env args) below
act-step code x u i env below (Call g args w more) s = tt

-- a step is one to a next state
step-there : (code : Code) (m : Blocks) (st : Stack) (a : Act) → next code (block_at m) st ≡ a → IsStep a → (m' : Blocks) × (st' : Stack) × Steps code m st m' st'
step-there code m st Over e s = absurd s
step-there code m st (Quiet after) e s = (m, after, Steps.quiet e)
step-there code m st (Makes key v u i env below) e s =
    (with_block m (made code (block_at m) key), Run u i (set env v (pointer key (Core (length m.made)))) below, Steps.makes e)
step-there code m st (Writes p value after) e s = (written_at m p.block p.field value, after, Steps.writes e)
step-there code m st (Reads p u v args below) e s =
    (m, entered code u.0 (words_after_read code u.0 v args (content_of m (At p) (variable_default code u.0 v))) below, Steps.reads e)

-- all blocks of a list fit, where each does
all-of : (test : Block → Bool) (blocks : List Block) → ((i : ℕ) (block : Block) → slice_get blocks i ≡ Some block → test block ≡ true) → list_all test blocks ≡ true
all-of test [] h = refl
all-of test (b ∷ blocks) h = both-true (test b) (list_all test blocks) (h 0 b refl) (all-of test blocks (λ i block e. h (suc i) block e))

typed-fits : (structs : List StructInfo) (m : Blocks) → MemoryTyped structs m → memory_fits structs m ≡ true
typed-fits structs m typed =
    both-true (list_all (block_fits structs m) m.inputs) (list_all (block_fits structs m) m.made) (all-of (block_fits structs m) m.inputs (λ i block e. typed (Input i) block e))
    (all-of (block_fits structs m) m.made (λ i block e. typed (Core i) block e))

inputs-typed : (structs : List StructInfo) (inputs : List Block) → inputs_fit structs inputs ≡ true → MemoryTyped structs (record { inputs = inputs; made = [] })
inputs-typed structs inputs h (Input i) block e = input-fits structs inputs h i block e
inputs-typed structs inputs h (Core i) block e = none-some block e

module _ (structs : List StructInfo) (m : Blocks) where
  field-word : (kinds : List FieldKind) (ws : List Word) (n : ℕ) (kind : FieldKind) → fields_fit structs m kinds ws ≡ true → slice_get kinds n ≡ Some kind → (w : Word) × (slice_get ws n ≡ Some w)
      × (fits_field structs m kind w ≡ true)
  field-word [] ws n kind h e = none-some kind e
  field-word (k ∷ kinds) [] n kind h e = absurd (grind (arith, h))
  field-word (k ∷ kinds) (w ∷ ws) zero kind h e =
      let p = both (fits_field structs m k w) (fields_fit structs m kinds ws) h in (w, refl, subst (λ k. fits_field structs m k w ≡ true) (some-same k kind e) p.0)
  field-word (k ∷ kinds) (w ∷ ws) (suc n) kind h e = let p = both (fits_field structs m k w) (fields_fit structs m kinds ws) h in field-word kinds ws n kind p.1 e

module _ (code : Code) (m : Blocks) (typed : MemoryTyped code.structs m) where
  -- the content of a place that a unit takes
  content-taken : (p : Place) (d : Word) (F : Word → Type 0) → Gives code m p F → F (content_of m (At p) d)
  content-taken p d F g = go (block_at m p.block) refl g.there
    where
      go : (o : Option Block) → block_at m p.block ≡ o → kind_in code.structs o p.field ≡ Some g.kind → F (word_in o p.field d)
      go None e k = none-some g.kind k
      go (Some block) e k = let w = field-word code.structs m (kinds_of_shape code.structs block.shape) block.words p.field g.kind (typed p.block block e) k in rw w.1 (g.goes w.0 w.2)

  -- a write into a place that takes the word
  written-typed : (p : Place) (w : Word) → Takes code m p w → MemoryTyped code.structs (written_at m p.block p.field w)
  written-typed p w t = go (block_at m p.block) refl t.there
    where
      each : (block : Block) → block_at m p.block ≡ Some block → slice_get (kinds_of_shape code.structs block.shape) p.field ≡ Some t.kind → (b : BlockId) (other : Block)
          → block_at (written_at m p.block p.field w) b ≡ Some other
          → (s : Bool) → same_block b p.block ≡ s → fields_fit code.structs (written_at m p.block p.field w) (kinds_of_shape code.structs other.shape) other.words ≡ true
      each block e k b other i true s =
          let j : block_at (written_at m p.block p.field w) p.block ≡ Some other = rw (block-same b p.block s) at i in
          let is : altered block p.field w ≡ other = some-same (altered block p.field w) other (sym (written-here m p.block p.field w block e) ∙ j) in
          subst (λ other. fields_fit code.structs (written_at m p.block p.field w) (kinds_of_shape code.structs other.shape) other.words ≡ true) is
          (fields-kept code.structs m (written_at m p.block p.field w) (kept-written m p.block p.field w block e) (kinds_of_shape code.structs block.shape) (slice_set block.words p.field w)
          (fields-set code.structs m (kinds_of_shape code.structs block.shape) block.words p.field t.kind w (typed p.block block e) k t.fits'))
      each block e k b other i false s =
          fields-kept code.structs m (written_at m p.block p.field w) (kept-written m p.block p.field w block e) (kinds_of_shape code.structs other.shape) other.words
          (typed b other (sym (written-other m p.block b p.field w block e s) ∙ i))

      go : (o : Option Block) → block_at m p.block ≡ o → kind_in code.structs o p.field ≡ Some t.kind → MemoryTyped code.structs (written_at m p.block p.field w)
      go None e k = none-some t.kind k
      go (Some block) e k = λ b other i. each block e k b other i (same_block b p.block) refl

  -- a new block
  grown-typed : (new : Block) → fields_fit code.structs m (kinds_of_shape code.structs new.shape) new.words ≡ true → MemoryTyped code.structs (with_block m new)
  grown-typed new h b block e = fields-kept code.structs m (with_block m new) (kept-grown m new) (kinds_of_shape code.structs block.shape) block.words (go b e)
    where
      newest : (c : ℕ) → slice_get (m.made ++ new ∷ []) c ≡ Some block → (t : Bool) → (c == length m.made) ≡ t → fields_fit code.structs m (kinds_of_shape code.structs block.shape) block.words ≡ true
      newest c e true s =
          let j : slice_get (m.made ++ new ∷ []) (length m.made) ≡ Some block = rw (nat-same c (length m.made) s) at e in
          subst (λ block. fields_fit code.structs m (kinds_of_shape code.structs block.shape) block.words ≡ true) (some-same new block (sym (grown-here m new) ∙ j)) h
      newest c e false s = typed (Core c) block (sym (get-push_other m.made new c s) ∙ e)

      go : (b : BlockId) → block_at (with_block m new) b ≡ Some block → fields_fit code.structs m (kinds_of_shape code.structs block.shape) block.words ≡ true
      go (Input i) e = typed (Input i) block e
      go (Core c) e = newest c e (c == length m.made) refl

  -- the pointer to a new block fits
  pointer-fits : (key : Key) → KeyTyped code m key → fits_kind code.structs (with_block m (made code (block_at m) key)) (pointer_kind (shape_of code key)) (pointer key (Core (length m.made))) ≡ true
  pointer-fits IntKey h = rw (grown-here m (made code (block_at m) IntKey), made-shape code (block_at m) IntKey)
  pointer-fits (PtrKey s) h = rw (grown-here m (made code (block_at m) (PtrKey s)), made-shape code (block_at m) (PtrKey s), nat-refl s)
  pointer-fits (Init f args) h = go (slice_get code.functions f) refl h
    where
      new-struct : (s : ℕ) → shape_of code (Init f args) ≡ Struct s → fits_kind code.structs (with_block m (made code (block_at m) (Init f args))) (Ptr s) (BlockWord (Core (length m.made))) ≡ true
      new-struct s e = rw (grown-here m (made code (block_at m) (Init f args)), made-shape code (block_at m) (Init f args) ∙ e, nat-refl s)

      go : (o : Option FunctionCode) → slice_get code.functions f ≡ o → InitTyped code m args o
          → fits_kind code.structs (with_block m (made code (block_at m) (Init f args))) (pointer_kind (shape_of code (Init f args))) (BlockWord (Core (length m.made))) ≡ true
      go None e h = absurd h
      go (Some (CoreFunction name entry params)) e h = absurd h
      go (Some (InitFunction name s params body)) e h = let i : shape_of code (Init f args) ≡ Struct s = rw e in rw i (new-struct s i)

module _ (code : Code) (ok : valid code ≡ true) where
  module _ (m : Blocks) (typed : MemoryTyped code.structs m) where
    landed-typed : (c : Cmd) (arrived rest : Stack) → StackTyped code m arrived → StackTyped code m rest → StackTyped code m (landed c arrived rest)
    landed-typed Done arrived rest h k = k
    landed-typed (Tail v args) arrived rest h k = k
    landed-typed (Move v a) arrived rest h k = h
    landed-typed Tick arrived rest h k = h
    landed-typed (Alloc v g args) arrived rest h k = h
    landed-typed (Modref v shape) arrived rest h k = h
    landed-typed (Write p a) arrived rest h k = h
    landed-typed (If test first second) arrived rest h k = h
    landed-typed (Read v p z args) arrived rest h k = h
    landed-typed (Call g args z more) arrived rest h k = h

    settled_at-typed : (u i : ℕ) (env : Variables) (below rest : Stack) → FrameTyped code m u i env → StackTyped code m below → StackTyped code m rest → (c : Cmd) → command_at code u i ≡ c
        → StackTyped code m (stack_after_quiet_at code (block_at m) c u i env below rest)
    settled_at-typed u i env below rest f h k Done e = k
    settled_at-typed u i env below rest f h k (Tail w args) e =
        landed-typed (command_at code w.0 0) (entered code w.0 (values code.structs (block_at m) env args) below) rest
        (tail-typed code ok m typed u i env below h w args (at-command code m u i env f (Tail w args) e)) k
    settled_at-typed u i env below rest f h k (Move v a) e = (f, h)
    settled_at-typed u i env below rest f h k Tick e = (f, h)
    settled_at-typed u i env below rest f h k (Alloc v g args) e = (f, h)
    settled_at-typed u i env below rest f h k (Modref v shape) e = (f, h)
    settled_at-typed u i env below rest f h k (Write p a) e = (f, h)
    settled_at-typed u i env below rest f h k (If test first second) e = (f, h)
    settled_at-typed u i env below rest f h k (Read v p z args) e = (f, h)
    settled_at-typed u i env below rest f h k (Call g args z more) e = (f, h)

    stack_after_quiet-typed : (st : Stack) → StackTyped code m st → StackTyped code m (stack_after_quiet code (block_at m) st)
    unfolding stack_after_quiet
    stack_after_quiet-typed Empty h = tt
    stack_after_quiet-typed (Run u i env below) h = settled_at-typed u i env below (stack_after_quiet code (block_at m) below) h.0 h.1 (stack_after_quiet-typed below h.1) (command_at code u i) refl

    acted-typed : (s : Stack) → StackTyped code m s → Ready code s → ActTyped code m (acted code (block_at m) s)
    acted-typed Empty h r = tt
    acted-typed (Run u i env below) h r = act-typed code ok m typed u i env below h.1 (command_at code u i) (at-command code m u i env h.0 (command_at code u i) refl) r

    next-typed : (st : Stack) → StackTyped code m st → ActTyped code m (next code (block_at m) st)
    unfolding next
    next-typed st h = acted-typed (stack_after_quiet code (block_at m) st) (stack_after_quiet-typed st h) (stack_after_quiet-ready code (block_at m) st)

    goes : (st s : Stack) → stack_after_quiet code (block_at m) st ≡ s → StackTyped code m s → Ready code s → GoesOn code m st s
    goes st Empty e h r = tt
    goes st (Run u i env below) e h r =
        step-there code m st (act code (block_at m) (command_at code u i) u i env below) (next-acted code (block_at m) st (Run u i env below) e)
        (act-step code (block_at m) u i env below (command_at code u i) r)

    -- a typed state is not stuck
    not-stuck : (st : Stack) → StackTyped code m st → NotStuck code m st
    not-stuck st h = record {
      memory = typed-fits code.structs m typed;
      stack = stack-there code ok m typed st h;
      settles = stack-there code ok m typed (stack_after_quiet code (block_at m) st) (stack_after_quiet-typed st h);
      goes_on = goes st (stack_after_quiet code (block_at m) st) refl (stack_after_quiet-typed st h) (stack_after_quiet-ready code (block_at m) st);
    }

  -- a typed state
  abbrev StateTyped : Blocks → Stack → Type 0
  StateTyped m st = MemoryTyped code.structs m × StackTyped code m st

  after-makes : (m : Blocks) (key : Key) (v u i : ℕ) (env : Variables) (below : Stack) → MemoryTyped code.structs m → ActTyped code m (Makes key v u i env below)
      → StateTyped (with_block m (made code (block_at m) key)) (Run u i (set env v (pointer key (Core (length m.made)))) below)
  after-makes m key v u i env below t h = (
    grown-typed code m t (made code (block_at m) key) (made-fits code ok m t key h.0),
    h.1 (with_block m (made code (block_at m) key)) (pointer key (Core (length m.made))) (kept-grown m (made code (block_at m) key)) (pointer-fits code m t key h.0),
  )

  after-writes : (m : Blocks) (p : Place) (value : Word) (after : Stack) → MemoryTyped code.structs m → ActTyped code m (Writes p value after) → StateTyped (written_at m p.block p.field value) after
  after-writes m p value after t h = (written-typed code m t p value h.0, kept h.0)
    where
      kept : Takes code m p value → StackTyped code (written_at m p.block p.field value) after
      kept k = go (block_at m p.block) refl k.there
        where
          go : (o : Option Block) → block_at m p.block ≡ o → kind_in code.structs o p.field ≡ Some k.kind → StackTyped code (written_at m p.block p.field value) after
          go None e i = none-some k.kind i
          go (Some block) e i = stack-kept code m (written_at m p.block p.field value) (kept-written m p.block p.field value block e) after h.1

  -- a step from a typed state leads to one
  step-typed : (m : Blocks) (st : Stack) (m' : Blocks) (st' : Stack) → StateTyped m st → Steps code m st m' st' → StateTyped m' st'
  step-typed m st m' st' h (Steps.quiet {after = after} e) = (h.0, subst (ActTyped code m) e (next-typed m h.0 st h.1))
  step-typed m st m' st' h (Steps.makes {below = below} {key = key} {v = v} {u = u} {i = i} {env = env} e) =
      after-makes m key v u i env below h.0 (subst (ActTyped code m) e (next-typed m h.0 st h.1))
  step-typed m st m' st' h (Steps.writes {after = after} {p = p} {value = value} e) = after-writes m p value after h.0 (subst (ActTyped code m) e (next-typed m h.0 st h.1))
  step-typed m st m' st' h (Steps.reads {below = below} {p = p} {u = u} {v = v} {args = args} e) = (
    h.0,
    content-taken code m h.0 p (variable_default code u.0 v) (λ w. StackTyped code m (entered code u.0 (words_after_read code u.0 v args w) below))
        (subst (ActTyped code m) e (next-typed m h.0 st h.1)),
  )

  reaches-typed : (m : Blocks) (st : Stack) (m' : Blocks) (st' : Stack) → StateTyped m st → Reaches code m st m' st' → StateTyped m' st'
  reaches-typed m st m' st' h Reaches.begin = h
  reaches-typed m st m' st' h (Reaches.step {m' = n} {st' = s} r k) = step-typed n s m' st' (reaches-typed m st n s h r) k

  prefix-at : (ps ks : List Kind) (n : ℕ) (kind : Kind) → is_prefix ps ks ≡ true → n < length ps → slice_get ks n ≡ Some kind → slice_get ps n ≡ Some kind
  unfolding is_prefix
  prefix-at [] ks n kind h l e = absurd (omega (arith, l))
  prefix-at (p ∷ ps) [] n kind h l e = none-some kind e
  prefix-at (p ∷ ps) (k ∷ ks) zero kind h l e = let i = both (same_kind p k) (is_prefix ps ks) h in ap Some (kind-same p k i.0) ∙ e
  prefix-at (p ∷ ps) (k ∷ ks) (suc n) kind h l e = let i = both (same_kind p k) (is_prefix ps ks) h in prefix-at ps ks n kind i.1 (omega (arith, l)) e

  module _ (inputs : List Block) where
    abbrev begun : Blocks
    begun = record { inputs = inputs; made = [] }

    chosen-typed : (params kinds : List Kind) (args : List Word) → is_prefix params kinds ≡ true → words_fit code.structs begun params args ≡ true → (ps : List VarId) → all_below (length params) ps
        ≡ true
        → ParamsTyped code begun kinds ps (chosen ps args)
    unfolding chosen all_below
    chosen-typed params kinds args h k [] l = tt
    chosen-typed params kinds args h k (p ∷ ps) l =
        let i = both (nat_lt p.0 (length params)) (all_below (length params) ps) l in (
          λ kind e. word-at code.structs begun params args k p.0 kind (prefix-at params kinds p.0 kind h (grind (arith, i.0)) e),
          chosen-typed params kinds args h k ps i.1,
        )

    entry-typed : (f w : ℕ) (params kinds : List Kind) (args : List Word) → slice_get code.kinds f ≡ Some kinds → is_prefix params kinds ≡ true → words_fit code.structs begun params args ≡ true
        → (o : Option CodeUnit) → slice_get code.units w ≡ o
        → entry_ok f (length params) o ≡ true → StackTyped code begun (entered code w (chosen (unit_at code w).params args) Empty)
    entry-typed f w params kinds args there h k None e l = absurd (grind (arith, l))
    entry-typed f w params kinds args there h k (Some unit) e l =
        let p = both (unit.function == f) (all_below (length params) unit.params) l in
        let i : unit.function ≡ f = nat-same unit.function f p.0 in
        let ks : kinds_of code unit.function ≡ kinds = rw (i, there) in
        let same : unit.params ≡ (unit_at code w).params = rw e in
        subst (λ ps. StackTyped code begun (entered code w (chosen ps args) Empty)) same
        (enter code ok begun w unit (chosen unit.params args) Empty e
        (subst (λ kinds. ParamsTyped code begun kinds unit.params (chosen unit.params args)) (sym ks) (chosen-typed params kinds args h k unit.params p.1)) tt)

    started-typed : (f : ℕ) (args : List Word) (o : Option FunctionCode) → slice_get code.functions f ≡ o → args_fit code.structs begun o args ≡ true → StackTyped code begun (started code f args)
    started-typed f args None e h = absurd (grind (arith, h))
    started-typed f args (Some (InitFunction name s params body)) e h = absurd (grind (arith, h))
    started-typed f args (Some (CoreFunction name entry params)) e h =
        let v = function-valid code ok f (CoreFunction name entry params) e in
        let p = both (is_prefix params v.kinds' && kinds_ok code.structs v.kinds') (entry_ok f (length params) (slice_get code.units entry.0)) v.ok in
        let q = both (is_prefix params v.kinds') (kinds_ok code.structs v.kinds') p.0 in
        let is : entry_of code f ≡ entry.0 = rw e in
        subst (λ w. StackTyped code begun (entered code w (chosen (unit_at code w).params args) Empty)) (sym is)
        (entry-typed f entry.0 params v.kinds' args v.there q.0 h (slice_get code.units entry.0) refl p.1)

  -- valid code is never stuck
  pub progress : (inputs : List Block) (f : ℕ) (args : List Word) → Fits code inputs f args → (m : Blocks) (st : Stack)
      → Reaches code (record { inputs = inputs; made = [] }) (started code f args) m st → NotStuck code m st
  progress inputs f args h m st r =
      let t = inputs-typed code.structs inputs h.blocks in
      let s = started-typed inputs f args (slice_get code.functions f) refl h.words in
      let k = reaches-typed (record { inputs = inputs; made = [] }) (started code f args) m st (t, s) r in
      not-stuck m k.0 st k.1
