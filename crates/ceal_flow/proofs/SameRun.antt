-- The graph of a program runs as the program does.
use Rattle.std.proofs.Common.{◌≡◌, ℕ, zero, suc, ◌+◌, Bool, true, false, ◌||◌, ◌⊎◌, inl, inr, Option, Some, None}
use Rattle.std.proofs.Common.{IsSomeAnd, IsSome, IsNone, List, [], ◌∷◌, ◌++◌, map, slice_get, slice_set, if◌then◌else◌}
use Rattle.std.proofs.Common.{refl, ap, sym, ◌∙◌, All, subst}
use Rattle.std.proofs.lemmas.List.{append-nil}
use Rattle.std.proofs.lemmas.List.Elements.{All-nil, All-cons}
use Rattle.ceal_base.specs.Access.{holds}
use Rattle.ceal_base.specs.Block.{Blocks}
use Rattle.ceal_base.specs.Usage.{CoreUsage, RowCoreUsage, InitUsage, ValueUsage, FunctionUsage, KeepsUsage, IsCore, IsInitialiser}
use Rattle.ceal_base.specs.declared.typed.Typed.{Typed}
use Rattle.ceal_base.specs.declared.typed.TypedFunction.{TypedFunction}
use Rattle.ceal_base.specs.declared.typed.TypedStmt.{TypedStmt, out-TypedStmt, roll-TypedStmt, roll-out-TypedStmt}
use Rattle.ceal_base.specs.declared.typed.TypedStmt.TheBlock.{hidden-the_row-TypedStmt-0, shape-the_row-TypedStmt-0}
use Rattle.ceal_base.specs.declared.typed.TypedStmt.TheOpen.{TypedStmt-F, Declare as OpenDeclare, Assign as OpenAssign}
use Rattle.ceal_base.specs.declared.typed.TypedStmt.TheOpen.{SetField as OpenSetField, Write as OpenWrite}
use Rattle.ceal_base.specs.declared.typed.TypedStmt.TheOpen.{Call as OpenCall, If as OpenIf, While as OpenWhile}
use Rattle.ceal_base.specs.declared.typed.TypedStmt.TheOpen.{Return as OpenReturn, Break as OpenBreak}
use Rattle.ceal_base.specs.declared.typed.TypedStmt.TheOpen.{Continue as OpenContinue}
use Rattle.ceal_base.specs.declared.typed.TypedStmt.TheVariants.{Declare, Assign, SetField, Write, Call, Return, Break}
use Rattle.ceal_base.specs.declared.typed.TypedStmt.TheVariants.{Continue, rolls-Declare, rolls-Assign, rolls-SetField}
use Rattle.ceal_base.specs.declared.typed.TypedStmt.TheVariants.{rolls-Write, rolls-Call, rolls-If, rolls-While}
use Rattle.ceal_base.specs.declared.typed.TypedStmt.TheVariants.{rolls-Return, rolls-Break, rolls-Continue}
use Rattle.ceal_base.specs.declared.typed.TypedStmt.TheViews.{If, While}
use Rattle.ceal_base.specs.declared.typed.TypedValue.{TypedValue}
use Rattle.ceal_base.specs.declared.typed.TypedValue.TheVariants.{Plain, Read, Alloc, ModrefInt, Modref}
use Rattle.ceal_base.specs.declared.word.Word.{Word}
use Rattle.ceal_mean.specs.Exec.{value_given, first_env, frames_at_entry, state_given, effect, is_over, frames_to_run, state_after_item, new_block}
use Rattle.ceal_mean.specs.Frame.{Item, Do, Again, statement_of, Frame, State}
use Rattle.ceal_mean.specs.Fresh.{run_settled}
use Rattle.ceal_mean.specs.Init.{made_by}
use Rattle.ceal_mean.specs.Jumps.{ready}
use Rattle.ceal_mean.specs.Value.{value_of, values_of}
use Rattle.ceal_flow.specs.Blocks.{sizes, all_may_continue, no_loop, in_loop, target, entry, blocks_of, all_blocks}
use Rattle.ceal_flow.specs.Fresh.{Point, State as GraphState, initialiser_in, value_given as graph_taken}
use Rattle.ceal_flow.specs.Fresh.{points_at_entry as graph_entered, state_given as graph_given, is_over as block_is_over}
use Rattle.ceal_flow.specs.Fresh.{points_to_run as graph_settled, state_after_block as graph_stepped, run_settled as graph_run_settled}
use Rattle.ceal_flow.specs.Laws.{RunsAs}
use Rattle.ceal_flow.specs.Lowering.{end_of, first_of, core_blocks, function_at, function_in, blocks_at, graph_of}
use Rattle.ceal_flow.specs.Program.{Graph}
use Rattle.ceal_flow.specs.declared.block.GraphBlock.{GraphBlock}
use Rattle.ceal_flow.specs.declared.block.GraphBlock.TheVariants.{Done, Test, Act}
use Rattle.ceal_flow.specs.declared.exits.Exits.{Exits}
use Rattle.ceal_flow.proofs.BlockSteps.{on-declare, on-assign, on-set, on-write, on-call, on-if, on-while}
use Rattle.ceal_flow.proofs.BlockSteps.{blocks-declare, blocks-assign, blocks-set, blocks-write, blocks-call, blocks-if}
use Rattle.ceal_flow.proofs.BlockSteps.{blocks-while, all-length}
use Rattle.ceal_flow.proofs.Placing.{Placed, placed-head, placed-left, placed-right, placed-tail, made-at, all-at}
use Rattle.ceal_flow.proofs.Simulation.{is_jump, Stands, Around, part-stands, part-around, Ready, all-ready, Front, front}

-- the function of which it holds
pub record Found (o : Option TypedFunction) (P : TypedFunction → Type 0) : Type 0 where
  pub function : TypedFunction
  pub is : o ≡ Some function
  pub holds : P function

found : (o : Option TypedFunction) (P : TypedFunction → Type 0) → IsSomeAnd o P → Found o P
found None P h = absurd h
found (Some f) P h = record { function = f; is = refl; holds = h }

none-is : (i : Option ℕ) → IsNone i → i ≡ None
none-is None h = refl
none-is (Some s) h = cc

initialiser-made : (i : Option ℕ) (f : TypedFunction) (n : ℕ) → IsSome i → initialiser_in (Some (function_in i f n)) ≡ Some f
initialiser-made None f n h = cc
initialiser-made (Some s) f n h = refl

or-right : (b : Bool) → (b || true) ≡ true
or-right true = refl
or-right false = refl

row-usage : (fs : List TypedFunction) (looped : Bool) (xs : List TypedStmt) → RowCoreUsage fs looped (hidden-the_row-TypedStmt-0 xs) → All (CoreUsage fs looped) xs
unfolding CoreUsage hidden-the_row-TypedStmt-0 shape-the_row-TypedStmt-0 denote.Hole.Carrier.hidden
row-usage fs looped [] h = All-nil (CoreUsage fs looped)
row-usage fs looped (x ∷ xs) h = All-cons (CoreUsage fs looped) x xs h.0 (row-usage fs looped xs h.1)

abbrev BodyUsage : List TypedFunction → List TypedStmt → Option ℕ → Type 0
BodyUsage fs body None = All (CoreUsage fs false) body
BodyUsage fs body (Some s) = All InitUsage body

usage-of : (fs : List TypedFunction) (f : TypedFunction) → f.initialiser ≡ None → FunctionUsage fs f → All (CoreUsage fs false) f.body
usage-of fs f e u = let P : Option ℕ → Type 0 = λ i. BodyUsage fs f.body i in subst P e u

-- the block at which a statement begins that is no jump
abbrev looked : TypedStmt-F TypedStmt → ℕ → ℕ → Exits → GraphBlock
looked (OpenDeclare at v kind value) n after exits = Act (Declare at v kind value) after
looked (OpenAssign at v value) n after exits = Act (Assign at v value) after
looked (OpenSetField at left s field e) n after exits = Act (SetField at left s field e) after
looked (OpenWrite at place e) n after exits = Act (Write at place e) after
looked (OpenCall at f args) n after exits = Act (Call at f args) after
looked (OpenIf at test first second) n after exits = Test test (entry first (n + 1) after exits) (entry second (n + 1 + sizes first) after exits)
looked (OpenWhile at test body) n after exits = Test test (entry body (n + 1) n (in_loop exits n after)) after
looked _ n after exits = Done

module _ (p : Typed) (kept : KeepsUsage p) where
  abbrev g : Graph
  g = graph_of p

  -- a frame and a point: the items are at the block, and the words of the variables are the same
  pub record Along (f : Frame) (q : Point) : Type 0 where
    pub done : ℕ
    pub over : slice_get g.blocks done ≡ Some Done
    pub exits : Exits
    pub stands : Stands p.functions g.blocks done exits f.todo q.block
    pub around : Around p.functions g.blocks done exits f.todo
    pub env : f.env ≡ q.env

  abbrev pub AllAlong : List Frame → List Point → Type 0
  AllAlong [] [] = Unit {0}
  AllAlong (f ∷ below) (q ∷ points) = Along f q × AllAlong below points
  AllAlong [] (q ∷ points) = ⊥
  AllAlong (f ∷ below) [] = ⊥

  pub record StatesAlong (s : State) (t : GraphState) : Type 0 where
    pub memory : s.memory ≡ t.memory
    pub frames : AllAlong s.frames t.points

  along-append : (fs below : List Frame) (qs points : List Point) → AllAlong fs qs → AllAlong below points → AllAlong (fs ++ below) (qs ++ points)
  along-append [] below [] points h k = k
  along-append [] below (q ∷ qs) points h k = absurd h
  along-append (f ∷ fs) below [] points h k = absurd h
  along-append (f ∷ fs) below (q ∷ qs) points h k = (h.0, along-append fs below qs points h.1 k)

  -- what a variable is given
  initialiser-of : (k : ℕ) (f : TypedFunction) → slice_get p.functions k ≡ Some f → IsSome f.initialiser
      → initialiser_in (slice_get g.functions k) ≡ slice_get p.functions k
  initialiser-of k f is some =
      let made = made-at p.functions k f is in ap initialiser_in made.function ∙ initialiser-made f.initialiser f made.start some ∙ sym is

  initialiser-same : (k : ℕ) → IsInitialiser (slice_get p.functions k) → initialiser_in (slice_get g.functions k) ≡ slice_get p.functions k
  initialiser-same k u =
      let h = found (slice_get p.functions k) (λ x. IsSome x.initialiser) u in initialiser-of k h.function h.is h.holds

  taken-same : (env : List Word) (m : Blocks) (v : TypedValue) → ValueUsage p.functions v → value_given p env m v ≡ graph_taken g env m v
  taken-same env m (Plain e) u = refl
  taken-same env m (Read at e) u = refl
  taken-same env m (Alloc at shape f name args) u = ap (λ o. new_block m (made_by p.structs o (values_of env m args) m)) (sym (initialiser-same f u))
  taken-same env m (ModrefInt at) u = refl
  taken-same env m (Modref at s) u = refl

  -- a call
  core-along : (f : TypedFunction) (n : ℕ) (args : List Word) → f.initialiser ≡ None → All (CoreUsage p.functions false) f.body → Placed g.blocks n (core_blocks f.body n)
      → Along (record { todo = map Do f.body; env = first_env f args }) (record { block = first_of f.body n; env = first_env f args })
  core-along f n args i usage placed =
      let done = end_of f.body n in
      let exits : Exits = no_loop done in
      let all : map Do f.body ++ [] ≡ map Do f.body = append-nil (map Do f.body) in
      record {
        done = done;
        over = placed-head g.blocks done Done [] (placed-right g.blocks n (all_blocks f.body n done exits) (Done ∷ []) (sizes f.body) (sym (all-length f.body n done exits)) placed);
        exits = exits;
        stands = subst (λ todo. Stands p.functions g.blocks done exits todo (first_of f.body n)) all
            (part-stands p.functions g.blocks done exits false f.body [] n done usage (placed-left g.blocks n (all_blocks f.body n done exits) (Done ∷ []) placed) (λ on. refl));
        around = subst (λ todo. Around p.functions g.blocks done exits todo) all (part-around p.functions g.blocks done exits f.body [] refl);
        env = refl;
      }

  call-made : (k : ℕ) (f : TypedFunction) (n : ℕ) (args : List Word) → slice_get p.functions k ≡ Some f → f.initialiser ≡ None
      → slice_get g.functions k ≡ Some (function_at f n) → Placed g.blocks n (blocks_at f n) → AllAlong (frames_at_entry p k args) (graph_entered g k args)
  call-made k f n args is none made placed =
      let usage = usage-of p.functions f none (all-at (FunctionUsage p.functions) p.functions k f kept is) in
      let core : Placed g.blocks n (core_blocks f.body n) = rw none at placed in
      rw (is, made, none) (core-along f n args none usage core, tt)

  call-of : (k : ℕ) (f : TypedFunction) (args : List Word) → slice_get p.functions k ≡ Some f → f.initialiser ≡ None → AllAlong (frames_at_entry p k args) (graph_entered g k args)
  call-of k f args is none = let made = made-at p.functions k f is in call-made k f made.start args is none made.function made.placed

  call-along : (k : ℕ) (args : List Word) → IsCore (slice_get p.functions k) → AllAlong (frames_at_entry p k args) (graph_entered g k args)
  call-along k args u =
      let h = found (slice_get p.functions k) (λ x. IsNone x.initialiser) u in call-of k h.function args h.is (none-is h.function.initialiser h.holds)

  module _ (done : ℕ) (over : slice_get g.blocks done ≡ Some Done) where
    abbrev Stand : Exits → List Item → ℕ → Type 0
    Stand exits todo at = Stands p.functions g.blocks done exits todo at

    abbrev Surround : Exits → List Item → Type 0
    Surround exits todo = Around p.functions g.blocks done exits todo

    abbrev Fronts : TypedStmt → List Item → ℕ → Type 0
    Fronts s rest at = Front p.functions g.blocks done s rest at

    -- the block of a statement that is no jump
    first-block : (s : TypedStmt) (rest : List Item) (at : ℕ) (fr : Fronts s rest at) (b : GraphBlock) (bs : List GraphBlock)
        → target s fr.n fr.exits ≡ fr.n → blocks_of s fr.n fr.after fr.exits ≡ b ∷ bs → slice_get g.blocks at ≡ Some b
    first-block s rest at fr b bs t e =
        let st = fr.stands in ap (slice_get g.blocks) (fr.here ∙ t) ∙ placed-head g.blocks fr.n b bs (rw e at st.placed)

    look-at : (s : TypedStmt) (o : TypedStmt-F TypedStmt) (rest : List Item) (at : ℕ) (fr : Fronts s rest at) → out-TypedStmt s ≡ o → is_jump s ≡ false
        → slice_get g.blocks at ≡ Some (looked o fr.n fr.after fr.exits)
    look-at s (OpenDeclare sp v kind value) rest at fr e r =
        let is : s ≡ Declare sp v kind value = sym (roll-out-TypedStmt s) ∙ ap roll-TypedStmt e ∙ rolls-Declare sp v kind value in
        let blocks : blocks_of s fr.n fr.after fr.exits ≡ Act (Declare sp v kind value) fr.after ∷ [] = rw is (blocks-declare fr.n fr.after fr.exits sp v kind value) in
        first-block s rest at fr _ _ (rw is refl) blocks
    look-at s (OpenAssign sp v value) rest at fr e r =
        let is : s ≡ Assign sp v value = sym (roll-out-TypedStmt s) ∙ ap roll-TypedStmt e ∙ rolls-Assign sp v value in
        let blocks : blocks_of s fr.n fr.after fr.exits ≡ Act (Assign sp v value) fr.after ∷ [] = rw is (blocks-assign fr.n fr.after fr.exits sp v value) in
        first-block s rest at fr _ _ (rw is refl) blocks
    look-at s (OpenSetField sp left k field x) rest at fr e r =
        let is : s ≡ SetField sp left k field x = sym (roll-out-TypedStmt s) ∙ ap roll-TypedStmt e ∙ rolls-SetField sp left k field x in
        let blocks : blocks_of s fr.n fr.after fr.exits ≡ Act (SetField sp left k field x) fr.after ∷ [] = rw is (blocks-set fr.n fr.after fr.exits sp left k field x) in
        first-block s rest at fr _ _ (rw is refl) blocks
    look-at s (OpenWrite sp place x) rest at fr e r =
        let is : s ≡ Write sp place x = sym (roll-out-TypedStmt s) ∙ ap roll-TypedStmt e ∙ rolls-Write sp place x in
        let blocks : blocks_of s fr.n fr.after fr.exits ≡ Act (Write sp place x) fr.after ∷ [] = rw is (blocks-write fr.n fr.after fr.exits sp place x) in
        first-block s rest at fr _ _ (rw is refl) blocks
    look-at s (OpenCall sp f args) rest at fr e r =
        let is : s ≡ Call sp f args = sym (roll-out-TypedStmt s) ∙ ap roll-TypedStmt e ∙ rolls-Call sp f args in
        let blocks : blocks_of s fr.n fr.after fr.exits ≡ Act (Call sp f args) fr.after ∷ [] = rw is (blocks-call fr.n fr.after fr.exits sp f args) in
        first-block s rest at fr _ _ (rw is refl) blocks
    look-at s (OpenIf sp test first second) rest at fr e r =
        let is : s ≡ If sp test first second = sym (roll-out-TypedStmt s) ∙ ap roll-TypedStmt e ∙ rolls-If sp test first second in
        let blocks : blocks_of s fr.n fr.after fr.exits ≡ looked (OpenIf sp test first second) fr.n fr.after fr.exits
        ∷ (all_blocks first (fr.n + 1) fr.after fr.exits ++ all_blocks second (fr.n + 1 + sizes first) fr.after fr.exits) =
        rw is (blocks-if fr.n fr.after fr.exits sp test first second) in
        first-block s rest at fr _ _ (rw is refl) blocks
    look-at s (OpenWhile sp test body) rest at fr e r =
        let is : s ≡ While sp test body = sym (roll-out-TypedStmt s) ∙ ap roll-TypedStmt e ∙ rolls-While sp test body in
        let blocks : blocks_of s fr.n fr.after fr.exits ≡ looked (OpenWhile sp test body) fr.n fr.after fr.exits ∷ all_blocks body (fr.n + 1) fr.n (in_loop fr.exits fr.n fr.after) =
        rw is (blocks-while fr.n fr.after fr.exits sp test body) in
        first-block s rest at fr _ _ (rw is refl) blocks
    look-at s (OpenReturn sp) rest at fr e r =
        let is : s ≡ Return sp = sym (roll-out-TypedStmt s) ∙ ap roll-TypedStmt e ∙ rolls-Return sp in let no : true ≡ false = rw is at r in cc
    look-at s (OpenBreak sp) rest at fr e r =
        let is : s ≡ Break sp = sym (roll-out-TypedStmt s) ∙ ap roll-TypedStmt e ∙ rolls-Break sp in let no : true ≡ false = rw is at r in cc
    look-at s (OpenContinue sp) rest at fr e r =
        let is : s ≡ Continue sp = sym (roll-out-TypedStmt s) ∙ ap roll-TypedStmt e ∙ rolls-Continue sp in let no : true ≡ false = rw is at r in cc

    -- a frame is over where its point is
    runs-looked : (s : TypedStmt) (o : TypedStmt-F TypedStmt) (n after : ℕ) (exits : Exits) → out-TypedStmt s ≡ o → is_jump s ≡ false → block_is_over (Some (looked o n after exits)) ≡ false
    runs-looked s (OpenDeclare sp v kind value) n after exits e r = refl
    runs-looked s (OpenAssign sp v value) n after exits e r = refl
    runs-looked s (OpenSetField sp left k field x) n after exits e r = refl
    runs-looked s (OpenWrite sp place x) n after exits e r = refl
    runs-looked s (OpenCall sp f args) n after exits e r = refl
    runs-looked s (OpenIf sp test first second) n after exits e r = refl
    runs-looked s (OpenWhile sp test body) n after exits e r = refl
    runs-looked s (OpenReturn sp) n after exits e r =
        let is : s ≡ Return sp = sym (roll-out-TypedStmt s) ∙ ap roll-TypedStmt e ∙ rolls-Return sp in let no : true ≡ false = rw is at r in cc
    runs-looked s (OpenBreak sp) n after exits e r =
        let is : s ≡ Break sp = sym (roll-out-TypedStmt s) ∙ ap roll-TypedStmt e ∙ rolls-Break sp in let no : true ≡ false = rw is at r in cc
    runs-looked s (OpenContinue sp) n after exits e r =
        let is : s ≡ Continue sp = sym (roll-out-TypedStmt s) ∙ ap roll-TypedStmt e ∙ rolls-Continue sp in let no : true ≡ false = rw is at r in cc

    pub over-same : (items : List Item) (at : ℕ) → Ready p.functions g.blocks done items at → is_over items ≡ block_is_over (slice_get g.blocks at)
    over-same [] at r = rw (r.stands, over) refl
    over-same (item ∷ rest) at r =
        let s = statement_of item in
        let fr = front p.functions g.blocks done item rest at r in
        rw (look-at s (out-TypedStmt s) rest at fr refl r.first) (sym (runs-looked s (out-TypedStmt s) fr.n fr.after fr.exits refl r.first))

    module _ (m : Blocks) (env : List Word) (rest : List Item) (below : List Frame) (points : List Point) (along : AllAlong below points) where
      -- one statement and one block
      next-along : (exits : Exits) (todo : List Item) (at : ℕ) (words : List Word) → Stand exits todo at → Surround exits todo
          → AllAlong (record { todo = todo; env = words } ∷ below) (record { block = at; env = words } ∷ points)
      next-along exits todo at words st ar = (record { done = done; over = over; exits = exits; stands = st; around = ar; env = refl }, along)

      -- a part of an `if`, which is followed by what follows the `if`
      if-along : (exits : Exits) (b : Bool) (first second : List TypedStmt) (n k : ℕ) → Surround exits rest
          → Stand exits (map Do first ++ rest) n → Stand exits (map Do second ++ rest) k
          → AllAlong (record { todo = map Do (if b then first else second) ++ rest; env = env } ∷ below) (record { block = (if b then n else k); env = env } ∷ points)
      if-along exits true first second n k ar one two =
          next-along exits (map Do first ++ rest) n env one (part-around p.functions g.blocks done exits first rest ar)
      if-along exits false first second n k ar one two =
          next-along exits (map Do second ++ rest) k env two (part-around p.functions g.blocks done exits second rest ar)

      -- the body of a `while`, which is followed by the `while` again
      while-along : (exits inside : Exits) (b : Bool) (body : List TypedStmt) (s : TypedStmt) (n k : ℕ)
          → Surround inside (Again s ∷ rest) → Stand inside (map Do body ++ Again s ∷ rest) n → Surround exits rest → Stand exits rest k
          → AllAlong (record { todo = (if b then map Do body ++ Again s ∷ rest else rest); env = env } ∷ below) (record { block = (if b then n else k); env = env } ∷ points)
      while-along exits inside true body s n k within one ar two =
          next-along inside (map Do body ++ Again s ∷ rest) n env one (part-around p.functions g.blocks done inside body (Again s ∷ rest) within)
      while-along exits inside false body s n k within one ar two = next-along exits rest k env two ar

      given-along : (exits : Exits) (v : ℕ) (value : TypedValue) (after : ℕ) → ValueUsage p.functions value → Stand exits rest after → Surround exits rest
          → StatesAlong (state_given (value_given p env m value) v rest env below) (graph_given (graph_taken g env m value) v after env points)
      given-along exits v value after u st ar =
          rw (taken-same env m value u) (record { memory = refl; frames = next-along exits rest after (slice_set env v (graph_taken g env m value).word) st ar })

      step-of : (s : TypedStmt) (o : TypedStmt-F TypedStmt) (at : ℕ) → out-TypedStmt s ≡ o → is_jump s ≡ false → (fr : Fronts s rest at)
          → StatesAlong (effect p m env rest below s o) (graph_stepped g m env points (Some (looked o fr.n fr.after fr.exits)))
      unfolding CoreUsage
      step-of s (OpenDeclare sp v kind value) at e r fr =
          let is : s ≡ Declare sp v kind value = sym (roll-out-TypedStmt s) ∙ ap roll-TypedStmt e ∙ rolls-Declare sp v kind value in
          let st = fr.stands in
          given-along fr.exits v value fr.after (rw is at st.usage) (fr.next (rw is (on-declare sp v kind value))) fr.around
      step-of s (OpenAssign sp v value) at e r fr =
          let is : s ≡ Assign sp v value = sym (roll-out-TypedStmt s) ∙ ap roll-TypedStmt e ∙ rolls-Assign sp v value in
          let st = fr.stands in
          given-along fr.exits v value fr.after (rw is at st.usage) (fr.next (rw is (on-assign sp v value))) fr.around
      step-of s (OpenSetField sp left k field x) at e r fr =
          let is : s ≡ SetField sp left k field x = sym (roll-out-TypedStmt s) ∙ ap roll-TypedStmt e ∙ rolls-SetField sp left k field x in
          record { memory = refl; frames = next-along fr.exits rest fr.after env (fr.next (rw is (on-set sp left k field x))) fr.around }
      step-of s (OpenWrite sp place x) at e r fr =
          let is : s ≡ Write sp place x = sym (roll-out-TypedStmt s) ∙ ap roll-TypedStmt e ∙ rolls-Write sp place x in
          record { memory = refl; frames = next-along fr.exits rest fr.after env (fr.next (rw is (on-write sp place x))) fr.around }
      step-of s (OpenCall sp f args) at e r fr =
          let is : s ≡ Call sp f args = sym (roll-out-TypedStmt s) ∙ ap roll-TypedStmt e ∙ rolls-Call sp f args in
          let st = fr.stands in
          record {
            memory = refl;
            frames = along-append (frames_at_entry p f (values_of env m args)) _ (graph_entered g f (values_of env m args)) _
                (call-along f (values_of env m args) (rw is at st.usage)) (next-along fr.exits rest fr.after env (fr.next (rw is (on-call sp f args))) fr.around);
          }
      step-of s (OpenIf sp test first second) at e r fr =
          let is : s ≡ If sp test first second = sym (roll-out-TypedStmt s) ∙ ap roll-TypedStmt e ∙ rolls-If sp test first second in
          let st = fr.stands in
          let looped = st.looped in
          let usage = rw is at st.usage in
          let blocks = rw (is, blocks-if) at st.placed in
          let parts = placed-tail g.blocks fr.n _ _ blocks in
          let k = fr.n + 1 in
          let other = k + sizes first in
          let one = part-stands p.functions g.blocks done fr.exits looped first rest k fr.after (row-usage p.functions looped first usage.0)
          (placed-left g.blocks k (all_blocks first k fr.after fr.exits) (all_blocks second other fr.after fr.exits) parts)
          (λ on. fr.next (rw (is, on-if, on) refl)) in
          let two = part-stands p.functions g.blocks done fr.exits looped second rest other fr.after (row-usage p.functions looped second usage.1)
          (placed-right g.blocks k (all_blocks first k fr.after fr.exits) (all_blocks second other fr.after fr.exits) (sizes first) (sym (all-length first k fr.after fr.exits)) parts)
          (λ on. fr.next (rw (is, on-if, on) (or-right (all_may_continue first)))) in
          record { memory = refl; frames = if-along fr.exits (holds (value_of env m test)) first second _ _ fr.around one two }
      step-of s (OpenWhile sp test body) at e r fr =
          let is : s ≡ While sp test body = sym (roll-out-TypedStmt s) ∙ ap roll-TypedStmt e ∙ rolls-While sp test body in
          let st = fr.stands in
          let inside : Exits = in_loop fr.exits fr.n fr.after in
          let usage = rw is at st.usage in
          let blocks = rw (is, blocks-while) at st.placed in
          let part = placed-tail g.blocks fr.n _ _ blocks in
          let on = fr.next (rw is (on-while sp test body)) in
          let within : Surround inside (Again s ∷ rest) = (fr.exits, record { ends = refl; steps = r; stands = st }, on, fr.around) in
          let one = part-stands p.functions g.blocks done inside true body (Again s ∷ rest) (fr.n + 1) fr.n (row-usage p.functions true body usage) part (λ on. refl) in
          record { memory = refl; frames = while-along fr.exits inside (holds (value_of env m test)) body s _ fr.after within one fr.around on }
      step-of s (OpenReturn sp) at e r fr =
          let is : s ≡ Return sp = sym (roll-out-TypedStmt s) ∙ ap roll-TypedStmt e ∙ rolls-Return sp in let no : true ≡ false = rw is at r in cc
      step-of s (OpenBreak sp) at e r fr =
          let is : s ≡ Break sp = sym (roll-out-TypedStmt s) ∙ ap roll-TypedStmt e ∙ rolls-Break sp in let no : true ≡ false = rw is at r in cc
      step-of s (OpenContinue sp) at e r fr =
          let is : s ≡ Continue sp = sym (roll-out-TypedStmt s) ∙ ap roll-TypedStmt e ∙ rolls-Continue sp in let no : true ≡ false = rw is at r in cc

  -- a frame of which the first item is a step, and its point
  pub record ReadyAlong (items : List Item) (words : List Word) (q : Point) : Type 0 where
    pub done : ℕ
    pub over : slice_get g.blocks done ≡ Some Done
    pub ready : Ready p.functions g.blocks done items q.block
    pub env : words ≡ q.env

  ready-along : (f : Frame) (q : Point) → Along f q → ReadyAlong (ready f.todo) f.env q
  ready-along f q a = record { done = a.done; over = a.over; ready = all-ready p.functions g.blocks a.done a.exits f.todo q.block a.stands a.around; env = a.env }

  step-along : (m : Blocks) (item : Item) (rest : List Item) (env : List Word) (below : List Frame) (q : Point) (points : List Point) → ReadyAlong (item ∷ rest) env q
      → AllAlong below points
      → StatesAlong (state_after_item p m (record { todo = item ∷ rest; env = env }) (item ∷ rest) below) (graph_stepped g m q.env points (slice_get g.blocks q.block))
  step-along m item rest env below q points a along =
      let s = statement_of item in
      let r = a.ready in
      let fr = front p.functions g.blocks a.done item rest q.block r in
      rw (← a.env, look-at a.done a.over s (out-TypedStmt s) rest q.block fr refl r.first)
      (step-of a.done a.over m env rest below points along s (out-TypedStmt s) q.block refl r.first fr)

  -- the running frame and the running point
  pub record Running (fs : List Frame) (qs : List Point) : Type 0 where
    pub item : Item
    pub rest : List Item
    pub env : List Word
    pub below : List Frame
    pub point : Point
    pub points : List Point
    pub frames_are : frames_to_run fs ≡ record { todo = item ∷ rest; env = env } ∷ below
    pub points_are : graph_settled g qs ≡ point ∷ points
    pub along : ReadyAlong (item ∷ rest) env point
    pub others : AllAlong below points

  abbrev Settled : List Frame → List Point → Type 0
  Settled fs qs = ((frames_to_run fs ≡ []) × (graph_settled g qs ≡ [])) ⊎ Running fs qs

  settle-first : (f : Frame) (fs : List Frame) (q : Point) (qs : List Point) → AllAlong fs qs → Settled fs qs → (items : List Item) → ready f.todo ≡ items
      → ReadyAlong items f.env q → block_is_over (slice_get g.blocks q.block) ≡ is_over items → Settled (f ∷ fs) (q ∷ qs)
  settle-first f fs q qs h later [] e a o =
      let s : frames_to_run (f ∷ fs) ≡ frames_to_run fs = rw e refl in
      let t : graph_settled g (q ∷ qs) ≡ graph_settled g qs = rw o refl in
      elim later [
        | inl n ↦ inl (s ∙ n.0, t ∙ n.1)
        | inr r ↦ inr (record {
          item = r.item;
          rest = r.rest;
          env = r.env;
          below = r.below;
          point = r.point;
          points = r.points;
          frames_are = s ∙ r.frames_are;
          points_are = t ∙ r.points_are;
          along = r.along;
          others = r.others;
        })
      ]
  settle-first f fs q qs h later (item ∷ rest) e a o = inr (record {
    item = item;
    rest = rest;
    env = f.env;
    below = fs;
    point = q;
    points = qs;
    frames_are = rw e refl;
    points_are = rw o refl;
    along = a;
    others = h;
  })

  settle : (fs : List Frame) (qs : List Point) → AllAlong fs qs → Settled fs qs
  settle [] [] h = inl (refl, refl)
  settle [] (q ∷ qs) h = absurd h
  settle (f ∷ fs) [] h = absurd h
  settle (f ∷ fs) (q ∷ qs) h =
      let a = ready-along f q h.0 in
      settle-first f fs q qs h.1 (settle fs qs h.1) (ready f.todo) refl a (sym (over-same a.done a.over (ready f.todo) q.block a.ready))

  run-same : (fuel steps : ℕ) (m : Blocks) (fs : List Frame) (qs : List Point) → AllAlong fs qs
      → graph_run_settled g fuel steps m (graph_settled g qs) ≡ run_settled p fuel steps m (frames_to_run fs)
  unfolding run_settled graph_run_settled
  run-same zero steps m fs qs h =
      elim (settle fs qs h) [ inl n ↦ rw (n.0, n.1) refl | inr r ↦ rw (r.frames_are, r.points_are) refl ]
  run-same (suc fuel) steps m fs qs h = elim (settle fs qs h) [
    | inl n ↦ rw (n.0, n.1) refl
    | inr r ↦
        let t = graph_stepped g m r.point.env r.points (slice_get g.blocks r.point.block) in
        let s = state_after_item p m (record { todo = r.item ∷ r.rest; env = r.env }) (r.item ∷ r.rest) r.below in
        let a = step-along m r.item r.rest r.env r.below r.point r.points r.along r.others in
        rw (r.frames_are, r.points_are)
        (ap (λ mm. graph_run_settled g fuel (steps + 1) mm (graph_settled g t.points)) (sym a.memory) ∙ run-same fuel (steps + 1) s.memory s.frames t.points a.frames)
  ]

  pub runs-as : RunsAs g p
  runs-as f args inputs fuel core = run-same fuel 0 (record { inputs = inputs; made = [] }) (frames_at_entry p f args) (graph_entered g f args) (call-along f args core)
