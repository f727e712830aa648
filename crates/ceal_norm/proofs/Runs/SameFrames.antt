-- A run of trace code corresponds to a run of the graph: each unit still to do is at the block of the point that goes
-- with it, and has the words of the variables that are live there.
use Rattle.std.proofs.Common.{◌≡◌, ◌⊎◌, inl, inr, ℕ, ◌+◌, ◌-◌, ◌<◌, ◌≤◌, Bool, true, false, if◌then◌else◌, Option, Some}
use Rattle.std.proofs.Common.{None, List, [], ◌∷◌, ◌++◌, length, map, slice_get, unwrap_or, replicate, refl, sym, ap}
use Rattle.std.proofs.Common.{◌∙◌, subst, arith, append_assoc, length-append}
use Rattle.std.proofs.lemmas.List.{append-nil}
use Rattle.ceal_base.specs.declared.typed.Typed.{Typed}
use Rattle.ceal_base.specs.declared.typed.TypedStmt.{TypedStmt, Declare, Assign, SetField, Write, Call, If', While', Return, Break, Continue}
use Rattle.ceal_base.specs.declared.typed.TypedValue.{TypedValue}
use Rattle.ceal_base.specs.declared.typed.TypedValue.TheVariants.{Plain as PlainValue, Read as ReadValue, Alloc as AllocValue, ModrefInt as ModrefIntValue, Modref as ModrefValue}
use Rattle.ceal_base.specs.declared.word.Word.{Word}
use Rattle.ceal_base.specs.declared.word.Word.TheVariants.{Null}
use Rattle.ceal_code.specs.Program.{Code}
use Rattle.ceal_code.specs.Step.{Stack, Empty, Run, bound, unit_at, command_at, entry_of, entry_in, kinds_of, entered, landed, stack_after_quiet_at, stack_after_quiet}
use Rattle.ceal_code.specs.Value.{Plain, Variables, values}
use Rattle.ceal_code.specs.declared.command.Cmd.{Cmd}
use Rattle.ceal_code.specs.declared.command.Cmd.TheVariants.{Move, Tick, Alloc, Modref, Write as WriteCmd, If, Done as DoneCmd, Tail, Read, Call as CallCmd}
use Rattle.ceal_flow.specs.Fresh.{Point, is_over, points_to_run}
use Rattle.ceal_flow.specs.Lowering.{end_of, first_of, core_at, graph_of}
use Rattle.ceal_flow.specs.Program.{Graph}
use Rattle.ceal_flow.specs.Sets.{is_in, set_at}
use Rattle.ceal_flow.specs.declared.block.GraphBlock.{GraphBlock}
use Rattle.ceal_flow.specs.declared.block.GraphBlock.TheVariants.{Done, Test, Act, Unreached}
use Rattle.ceal_flow.proofs.ListFacts.{get-append_right}
use Rattle.ceal_mean.specs.Value.{variable_of}
use Rattle.ceal_norm.specs.Entries.{is_entry, entries_before}
use Rattle.ceal_norm.specs.Expressions.{variable}
use Rattle.ceal_norm.specs.Laws.{IsClosed, IsForward, source_of}
use Rattle.ceal_norm.specs.Units.{Source, Placed, unit_of, args_of, jump_code, value_code, stmt_code, block_code, tree, owner, unit_code, function_code, kinds_code, code_of}
use Rattle.ceal_norm.proofs.Validity.KnownVariables.{get-map}
use Rattle.ceal_norm.proofs.Validity.LiveVariablesInScope.{stands-there}
use Rattle.ceal_norm.proofs.Runs.WordsOfVariables.{bound-map, values-own, start-word, start-long}
use Rattle.ceal_norm.proofs.Validity.StatementsAtEntries.{Function, Spot, context}
use Rattle.ceal_norm.proofs.Validity.StatementsAtBlocks.{within-blocks}
use Rattle.ceal_norm.proofs.Jumps.TreesUnfold.{tree-block}
use Rattle.ceal_norm.proofs.Validity.UnitsOfEntries.{unit-at, function-entry}

-- a command that takes a step
abbrev pub Steps : Cmd → Type 0
Steps DoneCmd = ⊥
Steps (Tail w args) = ⊥
Steps _ = Unit {0}

pub steps-run : (code : Code) (x : Plain) (c : Cmd) (u i : ℕ) (env : Variables) (below rest : Stack) → Steps c → stack_after_quiet_at code x c u i env below rest ≡ Run u i env below
steps-run code x (Move v e) u i env below rest h = refl
steps-run code x Tick u i env below rest h = refl
steps-run code x (Alloc v f args) u i env below rest h = refl
steps-run code x (Modref v shape) u i env below rest h = refl
steps-run code x (WriteCmd p e) u i env below rest h = refl
steps-run code x (If test first second) u i env below rest h = refl
steps-run code x DoneCmd u i env below rest h = absurd h
steps-run code x (Tail w args) u i env below rest h = absurd h
steps-run code x (Read v p w args) u i env below rest h = refl
steps-run code x (CallCmd f args w more) u i env below rest h = refl

pub steps-land : (c : Cmd) (arrived rest : Stack) → Steps c → landed c arrived rest ≡ arrived
steps-land (Move v e) arrived rest h = refl
steps-land Tick arrived rest h = refl
steps-land (Alloc v f args) arrived rest h = refl
steps-land (Modref v shape) arrived rest h = refl
steps-land (WriteCmd p e) arrived rest h = refl
steps-land (If test first second) arrived rest h = refl
steps-land DoneCmd arrived rest h = absurd h
steps-land (Tail w args) arrived rest h = absurd h
steps-land (Read v p w args) arrived rest h = refl
steps-land (CallCmd f args w more) arrived rest h = refl

-- the first command of a part: it takes a step where its block does
pub record Head (part : List Cmd) (over : Bool) : Type 0 where
  pub c : Cmd
  pub rest : List Cmd
  pub is : part ≡ c ∷ rest
  pub done : over ≡ true → c ≡ DoneCmd
  pub steps : over ≡ false → Steps c

module _ (s : Source) (onward : Placed) (i : ℕ) where
  value-head : (next n : ℕ) (value : TypedValue) → Head (value_code s onward next i n value) false
  value-head next n (PlainValue e) = record { c = _; rest = _; is = refl; done = λ e. cc; steps = λ e. tt }
  value-head next n (ReadValue at e) = record { c = _; rest = _; is = refl; done = λ e. cc; steps = λ e. tt }
  value-head next n (AllocValue at shape f name args) = record { c = _; rest = _; is = refl; done = λ e. cc; steps = λ e. tt }
  value-head next n (ModrefIntValue at) = record { c = _; rest = _; is = refl; done = λ e. cc; steps = λ e. tt }
  value-head next n (ModrefValue at shape) = record { c = _; rest = _; is = refl; done = λ e. cc; steps = λ e. tt }

  stmt-head : (next : ℕ) (st : TypedStmt) → Head (stmt_code s onward next i st) false
  stmt-head next (Declare at n kind value) = value-head next n value
  stmt-head next (Assign at n value) = value-head next n value
  stmt-head next (SetField at left k field e) = record { c = _; rest = _; is = refl; done = λ e. cc; steps = λ e. tt }
  stmt-head next (Write at place e) = record { c = _; rest = _; is = refl; done = λ e. cc; steps = λ e. tt }
  stmt-head next (Call at f args) = record { c = _; rest = _; is = refl; done = λ e. cc; steps = λ e. tt }
  stmt-head next (If' at test _ first _ second) = record { c = _; rest = _; is = refl; done = λ e. cc; steps = λ e. tt }
  stmt-head next (While' at test _ body) = record { c = _; rest = _; is = refl; done = λ e. cc; steps = λ e. tt }
  stmt-head next (Return at) = record { c = _; rest = _; is = refl; done = λ e. cc; steps = λ e. tt }
  stmt-head next (Break at) = record { c = _; rest = _; is = refl; done = λ e. cc; steps = λ e. tt }
  stmt-head next (Continue at) = record { c = _; rest = _; is = refl; done = λ e. cc; steps = λ e. tt }

  block-head : (o : Option GraphBlock) → Head (block_code s onward i o) (is_over o)
  block-head None = record { c = _; rest = _; is = refl; done = λ e. refl; steps = λ e. cc }
  block-head (Some Done) = record { c = _; rest = _; is = refl; done = λ e. refl; steps = λ e. cc }
  block-head (Some (Test test a b)) = record { c = _; rest = _; is = refl; done = λ e. cc; steps = λ e. tt }
  block-head (Some (Act st next)) = stmt-head next st
  block-head (Some Unreached) = record { c = _; rest = _; is = refl; done = λ e. refl; steps = λ e. cc }

-- a part of a unit's body is at an index
pub record PartAt (code : Code) (u i : ℕ) (part : List Cmd) : Type 0 where
  pub before : List Cmd
  pub after : List Cmd
  pub body : (unit_at code u).body ≡ before ++ (part ++ after)
  pub at : i ≡ length before

module _ (code : Code) (u i : ℕ) where
  pub command-is : (part : List Cmd) (c : Cmd) (rest : List Cmd) → PartAt code u i part → part ≡ c ∷ rest → command_at code u i ≡ c
  command-is part c rest h e =
      let at = h.at in
      let whole : (unit_at code u).body ≡ h.before ++ ((c ∷ rest) ++ h.after) = subst (λ x. (unit_at code u).body ≡ h.before ++ (x ++ h.after)) e h.body in
      ap (λ o. unwrap_or o DoneCmd) (ap (λ b. slice_get b i) whole ∙ get-append_right h.before ((c ∷ rest) ++ h.after) i 0 (omega (arith, at)))

  -- what follows the first command, and after a part of that
  pub part-behind : (c : Cmd) (rest : List Cmd) → PartAt code u i (c ∷ rest) → PartAt code u (i + 1) rest
  part-behind c rest h =
      let at = h.at in
      let longer = length-append h.before (c ∷ []) in
      record {
        before = h.before ++ c ∷ [];
        after = h.after;
        body = h.body ∙ sym (append_assoc h.before (c ∷ []) (rest ++ h.after));
        at = omega (arith, at, longer);
      }

  pub part-left : (xs ys : List Cmd) → PartAt code u i (xs ++ ys) → PartAt code u i xs
  part-left xs ys h = record { before = h.before; after = ys ++ h.after; body = h.body ∙ ap (λ cs. h.before ++ cs) (append_assoc xs ys h.after); at = h.at }

  pub part-right : (xs ys : List Cmd) → PartAt code u i (xs ++ ys) → PartAt code u (i + length xs) ys
  part-right xs ys h =
      let at = h.at in
      let longer = length-append h.before xs in
      record {
        before = h.before ++ xs;
        after = h.after;
        body = h.body ∙ ap (λ cs. h.before ++ cs) (append_assoc xs ys h.after) ∙ sym (append_assoc h.before xs (ys ++ h.after));
        at = omega (arith, at, longer);
      }

module _ (p : Typed) (sets : List (List ℕ)) where
  abbrev pub g : Graph
  g = graph_of p

  abbrev pub s : Source
  s = source_of p sets

  abbrev pub code : Code
  code = code_of s

  -- the tree of a block, and what is at a jump to it
  abbrev pub T : Placed
  T b i = tree s (length g.blocks) b i

  abbrev pub J : Placed
  J b i = jump_code s (tree s (length g.blocks)) b i

  abbrev pub set : ℕ → List ℕ
  set b = set_at sets b

  abbrev pub over : ℕ → Bool
  over b = is_over (slice_get g.blocks b)

  abbrev pub entry_unit : ℕ → ℕ
  entry_unit b = entries_before g b

  unit-is : (b : ℕ) → is_entry g b ≡ true → b < length g.blocks → unit_at code (entry_unit b) ≡ unit_code s b
  unit-is b e l = ap (λ o. unwrap_or o (record { function = 0; params = []; body = [] })) (unit-at s (length g.blocks) b e l)

  pub params-are : (b : ℕ) → is_entry g b ≡ true → b < length g.blocks → (unit_at code (entry_unit b)).params ≡ map variable (set b)
  params-are b e l = ap (λ u. u.params) (unit-is b e l)

  pub unit-part : (b : ℕ) → is_entry g b ≡ true → b < length g.blocks → PartAt code (entry_unit b) 0 (T b 0)
  unit-part b e l = record { before = []; after = []; body = ap (λ u. u.body) (unit-is b e l) ∙ sym (append-nil (T b 0)); at = refl }

  pub spot-there : (b : ℕ) → Spot p b → b < length g.blocks
  spot-there b spot =
      let fn = spot.function in
      stands-there p.functions (context p fn.f) g.blocks fn.home.start (end_of fn.f.body fn.home.start) fn.over fn.room spot.seen b spot.stands

  -- the kinds of the variables of the function to which a unit belongs
  pub unit-kinds : (b : ℕ) → is_entry g b ≡ true → (spot : Spot p b) → kinds_of code (unit_at code (entry_unit b)).function ≡ spot.function.f.kinds
  unit-kinds b e spot =
      let fn = spot.function in
      let done = end_of fn.f.body fn.home.start in
      let w = within-blocks p.functions (context p fn.f) g.blocks fn.home.start done fn.over fn.room spot.seen b spot.stands in
      let own : owner g b ≡ spot.k = fn.home.owned b w.0 w.1 in
      let function : (unit_at code (entry_unit b)).function ≡ spot.k = ap (λ u. u.function) (unit-is b e (spot-there b spot)) ∙ own in
      ap (kinds_of code) function ∙ ap (λ o. unwrap_or o []) (get-map kinds_code g.functions spot.k (core_at fn.f fn.home.start) fn.home.function)

  -- a unit at an index goes along with a point
  pub record Along (form : Placed) (q : Point) (u i : ℕ) (env : Variables) : Type 0 where
    pub spot : Spot p q.block
    pub wide : length spot.function.f.kinds ≤ length q.env
    pub agrees : (v : ℕ) → is_in v (set q.block) ≡ true → env v ≡ variable_of q.env v
    pub part : PartAt code u i (form q.block i)

  abbrev pub Either : Point → ℕ → ℕ → Variables → Type 0
  Either q u i env = Along T q u i env ⊎ Along J q u i env

  abbrev pub AllAlong : List Point → Stack → Type 0
  AllAlong [] Empty = Unit {0}
  AllAlong (q ∷ qs) (Run u i env below) = Either q u i env × AllAlong qs below
  AllAlong [] (Run u i env below) = ⊥
  AllAlong (q ∷ qs) Empty = ⊥

  -- a unit at its beginning
  pub enter-along : (q : Point) (spot : Spot p q.block) → length spot.function.f.kinds ≤ length q.env → is_entry g q.block ≡ true → (words : List Word) (word : ℕ → Word)
      → words ≡ map word (set q.block) → ((v : ℕ) → is_in v (set q.block) ≡ true → word v ≡ variable_of q.env v)
      → Along T q (entry_unit q.block) 0 (bound (unit_at code (entry_unit q.block)).params words)
  enter-along q spot wide e words word are agrees =
      let l = spot-there q.block spot in
      record {
        spot = spot;
        wide = wide;
        agrees = λ v h. ap (λ ps. bound ps words v) (params-are q.block e l) ∙ ap (λ ws. bound (map variable (set q.block)) ws v) are
            ∙ bound-map (set q.block) word v h ∙ agrees v h;
        part = unit-part q.block e l;
      }

  -- a call of a core function
  abbrev pub called_point : (k : ℕ) → Function p k → List Word → Point
  called_point k fn args = record {
    block = first_of fn.f.body fn.home.start;
    env = args ++ replicate (length fn.f.kinds - length args) Null;
  }

  abbrev pub first-spot : (k : ℕ) (fn : Function p k) → Spot p (first_of fn.f.body fn.home.start)
  first-spot k fn = record { k = k; function = fn; seen = _; stands = fn.first }

  pub first-is_entry : (k : ℕ) (fn : Function p k) → is_entry g (first_of fn.f.body fn.home.start) ≡ true
  first-is_entry k fn = function-entry g k fn.f.name.text (first_of fn.f.body fn.home.start) fn.f.params fn.f.kinds fn.home.function

  pub entry-unit : (k : ℕ) (fn : Function p k) → entry_of code k ≡ entry_unit (first_of fn.f.body fn.home.start)
  entry-unit k fn = ap (entry_in code) (get-map (function_code s) g.functions k (core_at fn.f fn.home.start) fn.home.function)

  pub call-along : (k : ℕ) (fn : Function p k) (args words : List Word) → words ≡ map (λ v. variable_of args v) (set (first_of fn.f.body fn.home.start))
      → Along T (called_point k fn args) (entry_of code k) 0 (bound (unit_at code (entry_of code k)).params words)
  call-along k fn args words e =
      let first = first_of fn.f.body fn.home.start in
      subst (λ u. Along T (called_point k fn args) u 0 (bound (unit_at code u).params words)) (sym (entry-unit k fn))
      (enter-along (called_point k fn args) (first-spot k fn) (start-long args (length fn.f.kinds)) (first-is_entry k fn) words (λ v. variable_of args v) e
      (λ v h. sym (start-word args (length fn.f.kinds - length args) v)))

  module _ (closed : IsClosed g) (forward : IsForward g) where
    pub T-is : (b i : ℕ) → b < length g.blocks → T b i ≡ block_code s J i (slice_get g.blocks b)
    T-is b i l = tree-block s closed forward b i l

    -- the first of a stack, where what takes no step is done
    pub record Settles (x : Plain) (q : Point) (u i : ℕ) (env : Variables) (below rest : Stack) : Type 0 where
      pub unit : ℕ
      pub index : ℕ
      pub words : Variables
      pub along : Along T q unit index words
      pub done : over q.block ≡ true → stack_after_quiet_at code x (command_at code u i) u i env below rest ≡ rest
      pub runs : over q.block ≡ false → stack_after_quiet_at code x (command_at code u i) u i env below rest ≡ Run unit index words below

    head-of : (b i : ℕ) → b < length g.blocks → Head (T b i) (over b)
    head-of b i l =
        let h = block-head s J i (slice_get g.blocks b) in
        record { c = h.c; rest = h.rest; is = T-is b i l ∙ h.is; done = h.done; steps = h.steps }

    settles-tree : (x : Plain) (q : Point) (u i : ℕ) (env : Variables) (below rest : Stack) → Along T q u i env → Settles x q u i env below rest
    settles-tree x q u i env below rest a =
        let h = head-of q.block i (spot-there q.block a.spot) in
        let is : command_at code u i ≡ h.c = command-is code u i (T q.block i) h.c h.rest a.part h.is in
        record {
          unit = u;
          index = i;
          words = env;
          along = a;
          done = λ o. ap (λ c. stack_after_quiet_at code x c u i env below rest) (is ∙ h.done o);
          runs = λ o. ap (λ c. stack_after_quiet_at code x c u i env below rest) is ∙ steps-run code x h.c u i env below rest (h.steps o);
        }

    settles-jump : (x : Plain) (q : Point) (u i : ℕ) (env : Variables) (below rest : Stack) → Along J q u i env → (b : Bool) → is_entry g q.block ≡ b
        → Settles x q u i env below rest
    settles-jump x q u i env below rest a false e =
        let same : J q.block i ≡ T q.block i = ap (λ b. if b then Tail (unit_of s q.block) (args_of s q.block) ∷ [] else T q.block i) e in
        settles-tree x q u i env below rest (record { spot = a.spot; wide = a.wide; agrees = a.agrees; part = subst (λ cs. PartAt code u i cs) same a.part })
    settles-jump x q u i env below rest a true e =
        let w = entry_unit q.block in
        let c = Tail (unit_of s q.block) (args_of s q.block) in
        let same : J q.block i ≡ c ∷ [] = ap (λ b. if b then c ∷ [] else T q.block i) e in
        let is : command_at code u i ≡ c = command-is code u i (J q.block i) c [] a.part same in
        let words = values code.structs x env (args_of s q.block) in
        let along = enter-along q a.spot a.wide e words env (values-own code.structs x env (set q.block)) a.agrees in
        let h = head-of q.block 0 (spot-there q.block a.spot) in
        let first : command_at code w 0 ≡ h.c = command-is code w 0 (T q.block 0) h.c h.rest along.part h.is in
        let arrived = entered code w words below in
        record {
          unit = w;
          index = 0;
          words = bound (unit_at code w).params words;
          along = along;
          done = λ o. ap (λ d. stack_after_quiet_at code x d u i env below rest) is ∙ ap (λ d. landed d arrived rest) (first ∙ h.done o);
          runs = λ o. ap (λ d. stack_after_quiet_at code x d u i env below rest) is ∙ ap (λ d. landed d arrived rest) first ∙ steps-land h.c arrived rest (h.steps o);
        }

    settles-first : (x : Plain) (q : Point) (u i : ℕ) (env : Variables) (below rest : Stack) → Either q u i env → Settles x q u i env below rest
    settles-first x q u i env below rest (inl a) = settles-tree x q u i env below rest a
    settles-first x q u i env below rest (inr a) = settles-jump x q u i env below rest a (is_entry g q.block) refl

    -- the running point and the running unit
    pub record Running (x : Plain) (qs : List Point) (st : Stack) : Type 0 where
      pub point : Point
      pub points : List Point
      pub unit : ℕ
      pub index : ℕ
      pub env : Variables
      pub below : Stack
      pub points_are : points_to_run g qs ≡ point ∷ points
      pub stack_is : stack_after_quiet code x st ≡ Run unit index env below
      pub along : Along T point unit index env
      pub others : AllAlong points below
      pub runs : over point.block ≡ false

    abbrev pub Settled : Plain → List Point → Stack → Type 0
    Settled x qs st = ((points_to_run g qs ≡ []) × (stack_after_quiet code x st ≡ Empty)) ⊎ Running x qs st

    settle-first : (x : Plain) (q : Point) (qs : List Point) (u i : ℕ) (env : Variables) (below : Stack) → AllAlong qs below → Settles x q u i env below (stack_after_quiet code x below)
        → Settled x qs below → (b : Bool) → over q.block ≡ b → Settled x (q ∷ qs) (Run u i env below)
    unfolding stack_after_quiet
    settle-first x q qs u i env below others h later true o =
        let e : points_to_run g (q ∷ qs) ≡ points_to_run g qs = ap (λ b. if b then points_to_run g qs else q ∷ qs) o in
        let f : stack_after_quiet code x (Run u i env below) ≡ stack_after_quiet code x below = h.done o in
        elim later [
          | inl n ↦ inl (e ∙ n.0, f ∙ n.1)
          | inr r ↦ inr (record {
            point = r.point;
            points = r.points;
            unit = r.unit;
            index = r.index;
            env = r.env;
            below = r.below;
            points_are = e ∙ r.points_are;
            stack_is = f ∙ r.stack_is;
            along = r.along;
            others = r.others;
            runs = r.runs;
          })
        ]
    settle-first x q qs u i env below others h later false o = inr (record {
      point = q;
      points = qs;
      unit = h.unit;
      index = h.index;
      env = h.words;
      below = below;
      points_are = ap (λ b. if b then points_to_run g qs else q ∷ qs) o;
      stack_is = h.runs o;
      along = h.along;
      others = others;
      runs = o;
    })

    pub settle : (x : Plain) (qs : List Point) (st : Stack) → AllAlong qs st → Settled x qs st
    unfolding stack_after_quiet
    settle x [] Empty h = inl (refl, refl)
    settle x [] (Run u i env below) h = absurd h
    settle x (q ∷ qs) Empty h = absurd h
    settle x (q ∷ qs) (Run u i env below) h =
        settle-first x q qs u i env below h.1 (settles-first x q u i env below (stack_after_quiet code x below) h.0) (settle x qs below h.1) (over q.block) refl
