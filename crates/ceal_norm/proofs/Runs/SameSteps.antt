-- One block is one step of its unit.
use Rattle.std.proofs.Common.{◌≡◌, inl, inr, ℕ, ◌+◌, ◌<◌, ◌≤◌, ◌==◌, not, Bool, true, false, if◌then◌else◌, Option}
use Rattle.std.proofs.Common.{Some, None, IsSome, IsSomeAnd, IsNone, List, [], ◌∷◌, ◌++◌, length, map, slice_get}
use Rattle.std.proofs.Common.{slice_set, unwrap_or, Contains, All, refl, sym, ap, ap₂, ◌∙◌, subst, arith}
use Rattle.std.proofs.lemmas.Bool.Decides.{eqb_tells}
use Rattle.std.proofs.lemmas.List.Elements.{Contains-push, Contains-append_left, Contains-append_right}
use Rattle.ceal_base.specs.Access.{content_of, memory_after_write, holds}
use Rattle.ceal_base.specs.Block.{Blocks, block_at}
use Rattle.ceal_base.specs.Finished.{Finished, with_block}
use Rattle.ceal_base.specs.Shapes.{default_of_kind, default_block, default_of}
use Rattle.ceal_base.specs.Usage.{CoreUsage, FunctionUsage, ValueUsage, KeepsUsage, IsCore, IsInitialiser}
use Rattle.ceal_base.specs.WellTyped.{ExprTyped, ExprSuits, ValueTyped, StmtTyped, FunctionTyped, WellTyped, kind_held, numbers_below}
use Rattle.ceal_base.specs.declared.forest.Key.TheVariants.{Init as InitKey, ModInt as IntKey, ModPtr as PtrKey}
use Rattle.ceal_base.specs.declared.forest.UnitId.{UnitId}
use Rattle.ceal_base.specs.declared.kind.Kind.{Kind}
use Rattle.ceal_base.specs.declared.kind.Kind.TheVariants.{Int, Ptr, ModInt, ModPtr}
use Rattle.ceal_base.specs.declared.kind.Shape.TheVariants.{Struct, ModInt as OneInt, ModPtr as OnePtr}
use Rattle.ceal_base.specs.declared.typed.Typed.{Typed}
use Rattle.ceal_base.specs.declared.typed.TypedExpr.{TypedExpr}
use Rattle.ceal_base.specs.declared.typed.TypedFunction.{TypedFunction}
use Rattle.ceal_base.specs.declared.typed.TypedStmt.{TypedStmt, Declare, Assign, SetField, Write, Call, If', While', Return, Break, Continue}
use Rattle.ceal_base.specs.declared.typed.TypedValue.{TypedValue}
use Rattle.ceal_base.specs.declared.typed.TypedValue.TheVariants.{Plain as PlainValue, Read as ReadValue, Alloc as AllocValue, ModrefInt as ModrefIntValue, Modref as ModrefValue}
use Rattle.ceal_base.specs.declared.word.BlockId.TheVariants.{Core as CoreBlock}
use Rattle.ceal_base.specs.declared.word.Word.{Word}
use Rattle.ceal_base.specs.declared.word.Word.TheVariants.{Num, Null, Block as BlockWord, At}
use Rattle.ceal_code.specs.Fresh.{ran, only_over}
use Rattle.ceal_code.specs.Init.{made, made_by as code_made_by, arguments}
use Rattle.ceal_code.specs.Program.{Code}
use Rattle.ceal_code.specs.Step.{Stack, Run, Act as CodeAct, command_at, entry_of, variable_default, entered as code_entered, words_after_read, woven, place_of, reads_at, writes_at, act}
use Rattle.ceal_code.specs.Value.{Variables, set as set_variable, expr_value, values}
use Rattle.ceal_code.specs.declared.command.Cmd.{Cmd}
use Rattle.ceal_code.specs.declared.command.Cmd.TheVariants.{Move, Alloc, Modref, Write as WriteCmd, If, Read, Call as CallCmd}
use Rattle.ceal_flow.specs.Fresh.{Point, State, initialiser_in, value_given, points_at_entry, state_given, is_over, state_after_act, state_after_block, point_in}
use Rattle.ceal_flow.specs.Laws.{IsSimple}
use Rattle.ceal_flow.specs.Live.{AreLiveSets, mentions, all_mentions, value_mentions, stmt_uses, uses, stmt_assigns, assigns, keeps}
use Rattle.ceal_flow.specs.Lowering.{first_of, graph_of}
use Rattle.ceal_flow.specs.Paths.{jumps}
use Rattle.ceal_flow.specs.Program.{Graph}
use Rattle.ceal_flow.specs.Sets.{is_in, is_that, set_at}
use Rattle.ceal_flow.specs.declared.block.GraphBlock.{GraphBlock}
use Rattle.ceal_flow.specs.declared.block.GraphBlock.TheVariants.{Test, Act}
use Rattle.ceal_flow.specs.declared.function.GraphFunction.TheVariants.{Init}
use Rattle.ceal_flow.proofs.ListFacts.{get-within}
use Rattle.ceal_flow.proofs.Placing.{made-at, all-at}
use Rattle.ceal_mean.specs.Exec.{content_default}
use Rattle.ceal_mean.specs.Init.{made_by}
use Rattle.ceal_mean.specs.Value.{variable_of, value_of, values_of}
use Rattle.ceal_norm.specs.Entries.{is_entry, has_closure, is_read}
use Rattle.ceal_norm.specs.Expressions.{variable, expr_code}
use Rattle.ceal_norm.specs.Laws.{IsClosed, IsForward, source_of}
use Rattle.ceal_norm.specs.Units.{Source, Placed, block_code, code_of, unit_of, args_of, without, closure_args, arg_at, call_args, entry_set, value_code, stmt_code, function_code}
use Rattle.ceal_norm.proofs.Validity.KnownVariables.{get-map, in-left, in-right}
use Rattle.ceal_norm.proofs.Validity.LiveVariablesInScope.{match, used-live, jump-live}
use Rattle.ceal_norm.proofs.Runs.SameFrames.{PartAt, command-is, part-behind, part-left, part-right, code as code_for}
use Rattle.ceal_norm.proofs.Runs.SameFrames.{T, J, over, entry_unit, T-is, params-are, spot-there, unit-kinds, Along}
use Rattle.ceal_norm.proofs.Runs.SameFrames.{AllAlong, enter-along, called_point, call-along}
use Rattle.ceal_norm.proofs.Runs.SameInitialBlocks.{all-init}
use Rattle.ceal_norm.proofs.Runs.SameValues.{expr-same, exprs-same, arg-same}
use Rattle.ceal_norm.proofs.Runs.WordsOfVariables.{instead, woven-map, values-map, values-own, set-word, set-long}
use Rattle.ceal_norm.proofs.Validity.StatementsAtEntries.{Function, StandsIn, ViewIn, view-in, Spot, context, function-of, init-usage, init-function}
use Rattle.ceal_norm.proofs.Validity.StatementsAtBlocks.{over as is_end, tests, acts}
use Rattle.ceal_norm.proofs.Validity.UnitsOfEntries.{continuation-entry}

-- the function of which it holds
pub record Found (o : Option TypedFunction) (P : TypedFunction → Type 0) : Type 0 where
  pub function : TypedFunction
  pub is : o ≡ Some function
  pub holds : P function

pub found : (o : Option TypedFunction) (P : TypedFunction → Type 0) → IsSomeAnd o P → Found o P
found None P h = absurd h
found (Some f) P h = record { function = f; is = refl; holds = h }

pub none-is : (i : Option ℕ) → IsNone i → i ≡ None
none-is None h = refl
none-is (Some s) h = cc

some-is : (i : Option ℕ) → IsSome i → i ≡ Some (unwrap_or i 0)
some-is None h = cc
some-is (Some s) h = refl

-- what is read through null
content-default : (kind : Option Kind) (asked : Kind) → kind_held kind ≡ Some asked → content_default kind ≡ default_of_kind asked
content-default None asked e = cc
content-default (Some Int) asked e = cc
content-default (Some (Ptr s)) asked e = cc
content-default (Some ModInt) asked e = let same : Int ≡ asked = cc in ap default_of_kind same
content-default (Some (ModPtr s)) asked e = let same : Ptr s ≡ asked = cc in ap default_of_kind same

read-ran : (code : Code) (again : Blocks → Stack → Option Finished) (k : ℕ) (m : Blocks) (w : Word) (u : UnitId) (v : ℕ) (args : List Word) (below : Stack)
    → ran code again k m (reads_at code (place_of w) u v args below)
    ≡ again m (code_entered code u.0 (words_after_read code u.0 v args (content_of m w (variable_default code u.0 v))) below)
read-ran code again k m (Num n) u v args below = refl
read-ran code again k m Null u v args below = refl
read-ran code again k m (BlockWord b) u v args below = refl
read-ran code again k m (At p) u v args below = refl

read-steps : (code : Code) (k : ℕ) (m : Blocks) (w : Word) (u : UnitId) (v : ℕ) (args : List Word) (below : Stack) → only_over k m (reads_at code (place_of w) u v args below) ≡ None
read-steps code k m (Num n) u v args below = refl
read-steps code k m Null u v args below = refl
read-steps code k m (BlockWord b) u v args below = refl
read-steps code k m (At p) u v args below = refl

write-ran : (code : Code) (again : Blocks → Stack → Option Finished) (k : ℕ) (m : Blocks) (w value : Word) (after : Stack)
    → ran code again k m (writes_at (place_of w) value after) ≡ again (memory_after_write m w value) after
write-ran code again k m (Num n) value after = refl
write-ran code again k m Null value after = refl
write-ran code again k m (BlockWord b) value after = refl
write-ran code again k m (At p) value after = refl

write-steps : (k : ℕ) (m : Blocks) (w value : Word) (after : Stack) → only_over k m (writes_at (place_of w) value after) ≡ None
write-steps k m (Num n) value after = refl
write-steps k m Null value after = refl
write-steps k m (BlockWord b) value after = refl
write-steps k m (At p) value after = refl

set-is : (env : Variables) (n : ℕ) (w : Word) (v : ℕ) → set_variable env n w v ≡ instead n w env v
unfolding set_variable
set-is env n w v = refl

arguments-are : (ws : List Word) (v : ℕ) → arguments ws v ≡ variable_of ws v
unfolding arguments
arguments-are ws v = refl

not-same : (n v : ℕ) → (v ≡ n → ⊥) → not (n == v) ≡ true
not-same n v h = elim (eqb_tells n v) [ inl p ↦ absurd (h (sym p.1)) | inr p ↦ rw p.0 refl ]

-- a step of the graph from a memory to a state is this step of a stack
pub record Stepped (p : Typed) (sets : List (List ℕ)) (m : Blocks) (a : CodeAct) (t : State) : Type 0 where
  pub after : Stack
  pub goes_on : (again : Blocks → Stack → Option Finished) (k : ℕ) → ran (code_for p sets) again k m a ≡ again t.memory after
  pub steps : (k : ℕ) → only_over k m a ≡ None
  pub along : AllAlong p sets t.points after

module _ (p : Typed) (sets : List (List ℕ)) (typed : WellTyped p) (kept : KeepsUsage p) (live : AreLiveSets (graph_of p).blocks sets)
    (closed : IsClosed (graph_of p)) (forward : IsForward (graph_of p)) where
  abbrev graph : Graph
  graph = graph_of p

  abbrev source : Source
  source = source_of p sets

  abbrev the_code : Code
  the_code = code_of source

  abbrev tree_at : Placed
  tree_at = T p sets

  abbrev jump_at : Placed
  jump_at = J p sets

  abbrev live_at : ℕ → List ℕ
  live_at b = set_at sets b

  -- a core function
  pub core-function : (k : ℕ) → IsCore (slice_get p.functions k) → Function p k
  core-function k u =
      let h = found (slice_get p.functions k) (λ x. IsNone x.initialiser) u in
      function-of p typed kept k h.function h.is (none-is h.function.initialiser h.holds)

  -- the block that an initialiser makes
  made-same : (m : Blocks) (k : ℕ) (ws : List Word) → IsInitialiser (slice_get p.functions k)
      → made the_code (block_at m) (InitKey k ws) ≡ made_by graph.structs (initialiser_in (slice_get graph.functions k)) ws m
  unfolding made
  made-same m k ws u =
      let h = found (slice_get p.functions k) (λ x. IsSome x.initialiser) u in
      let fn = h.function in
      let t = unwrap_or fn.initialiser 0 in
      let own : fn.initialiser ≡ Some t = some-is fn.initialiser h.holds in
      let is = made-at p.functions k fn h.is in
      let there : slice_get graph.functions k ≡ Some (Init fn) = is.function ∙ ap Some (init-function fn is.start t own) in
      let body = (all-at (FunctionTyped p.structs p.functions) p.functions k fn typed.functions h.is).body in
      let usage = init-usage p.functions fn t own (all-at (FunctionUsage p.functions) p.functions k fn kept h.is) in
      ap (code_made_by p.structs (block_at m) ws) (get-map (function_code source) graph.functions k (Init fn) there)
      ∙ ap (λ words. record { shape = Struct t; words = words })
      (all-init (context p fn) t own m (arguments ws) ws (arguments-are ws) fn.body (numbers_below fn.params) fn.params body usage (default_block p.structs (Struct t)).words)
      ∙ sym (ap (λ o. made_by p.structs (initialiser_in o) ws m) there)

  made-int : (m : Blocks) → made the_code (block_at m) IntKey ≡ default_block graph.structs OneInt
  unfolding made
  made-int m = refl

  made-ptr : (m : Blocks) (k : ℕ) → made the_code (block_at m) (PtrKey k) ≡ default_block graph.structs (OnePtr k)
  unfolding made
  made-ptr m k = refl

  module _ (m : Blocks) (q : Point) (points : List Point) (u i : ℕ) (env : Variables) (below : Stack) (along : Along p sets (T p sets) q u i env)
      (others : AllAlong p sets points below) where
    abbrev now : Cmd → CodeAct
    now c = act the_code (block_at m) c u i env below

    abbrev Step : CodeAct → State → Type 0
    Step a t = Stepped p sets m a t

    -- by the command that is there
    step-by : (part : List Cmd) (c : Cmd) (rest : List Cmd) (t : State) → tree_at q.block i ≡ part → part ≡ c ∷ rest → Step (now c) t → Step (now (command_at the_code u i)) t
    step-by part c rest t e f h =
        subst (λ d. Step (now d) t) (sym (command-is the_code u i (tree_at q.block i) c rest along.part (e ∙ f))) h

    part-is : (part : List Cmd) → tree_at q.block i ≡ part → PartAt the_code u i part
    part-is part e = subst (λ cs. PartAt the_code u i cs) e along.part

    abbrev Stand : List ℕ → ℕ → Type 0
    Stand seen b = StandsIn p along.spot.k along.spot.function seen b

    abbrev spot-at : (b : ℕ) (seen : List ℕ) → Stand seen b → Spot p b
    spot-at b seen st = record { k = along.spot.k; function = along.spot.function; seen = seen; stands = st }

    next-along : (next j : ℕ) (words : List Word) (vars : Variables) (seen : List ℕ) → Stand seen next → length q.env ≤ length words
        → ((v : ℕ) → is_in v (live_at next) ≡ true → vars v ≡ variable_of words v) → PartAt the_code u j (jump_at next j)
        → AllAlong p sets (record { block = next; env = words } ∷ points) (Run u j vars below)
    next-along next j words vars seen st l agrees part =
        let wide = along.wide in
        (inr (record { spot = spot-at next seen st; wide = omega (arith, wide, l); agrees = agrees; part = part }), others)

    module _ (block : GraphBlock) (look : slice_get graph.blocks q.block ≡ Some block) where
      used : (v : ℕ) → is_in v (uses block) ≡ true → env v ≡ variable_of q.env v
      used v h = along.agrees v (used-live graph.blocks sets live q.block v block look h)

      after-kept : (next v : ℕ) → Contains (jumps block) next → next < length graph.blocks → keeps v block ≡ true → is_in v (live_at next) ≡ true → env v ≡ variable_of q.env v
      after-kept next v j l keep h = along.agrees v (jump-live graph.blocks sets live q.block next v block look keep j l h)

      after-set : (next n : ℕ) (w w' : Word) → Contains (jumps block) next → next < length graph.blocks → assigns block ≡ Some n → n < length q.env → w ≡ w'
          → (v : ℕ) → is_in v (live_at next) ≡ true → instead n w env v ≡ variable_of (slice_set q.env n w') v
      after-set next n w w' j l a within e v h =
          let set : variable_of (slice_set q.env n w') v ≡ instead n w' (variable_of q.env) v = set-word q.env n v w' within in
          elim (eqb_tells v n) [
            | inl t ↦ let one : instead n w env v ≡ instead n w' (variable_of q.env) v = rw t.0 e in one ∙ sym set
            | inr t ↦
                let keep : keeps v block ≡ true = ap (λ o. not (is_that o v)) a ∙ not-same n v t.1 in
                let one : instead n w env v ≡ instead n w' (variable_of q.env) v = rw t.0 (after-kept next v j l keep h) in one ∙ sym set
          ]

    -- a condition
    fork : (b b' : Bool) (x y j k : ℕ) → b ≡ b' → AllAlong p sets (record { block = x; env = q.env } ∷ points) (Run u j env below)
        → AllAlong p sets (record { block = y; env = q.env } ∷ points) (Run u k env below)
        → AllAlong p sets (record { block = (if b' then x else y); env = q.env } ∷ points) (Run u (if b then j else k) env below)
    fork true true x y j k e one two = one
    fork false false x y j k e one two = two
    fork true false x y j k e one two = cc
    fork false true x y j k e one two = cc

    test-step : (test : TypedExpr) (x y : ℕ) (inner : List ℕ) → slice_get graph.blocks q.block ≡ Some (Test test x y) → ExprTyped (context p along.spot.function.f) inner test
        → Stand inner x → Stand inner y
        → Step (now (command_at the_code u i)) (state_after_block graph m q.env points (Some (Test test x y)))
    test-step test x y inner look t one two =
        let first = jump_at x (i + 1) in
        let second = jump_at y (i + 1 + length first) in
        let c = If (expr_code test) (i + 1) (i + 1 + length first) in
        let there = T-is p sets closed forward q.block i (spot-there p sets q.block along.spot) ∙ ap (block_code source jump_at i) look in
        let rest = part-behind the_code u i c (first ++ second) (part-is (c ∷ (first ++ second)) there) in
        let a = Contains-append_left (x ∷ []) (y ∷ []) x (Contains-push [] x) in
        let b = Contains-append_right (x ∷ []) (y ∷ []) y (Contains-push [] y) in
        let same = expr-same (context p along.spot.function.f) inner m env q.env test t (used (Test test x y) look) in
        step-by _ c (first ++ second) _ there refl (record {
          after = Run u (if holds (expr_value p.structs (block_at m) env (expr_code test)) then i + 1 else i + 1 + length first) env below;
          goes_on = λ again k. refl;
          steps = λ k. refl;
          along = fork _ _ x y (i + 1) (i + 1 + length first) (ap holds same)
              (next-along x (i + 1) q.env env inner one (omega arith)
              (λ v h. after-kept (Test test x y) look x v a (spot-there p sets x (spot-at x inner one)) refl h) (part-left the_code u (i + 1) first second rest))
              (next-along y (i + 1 + length first) q.env env inner two (omega arith)
              (λ v h. after-kept (Test test x y) look y v b (spot-there p sets y (spot-at y inner two)) refl h) (part-right the_code u (i + 1) first second rest));
        })

    module _ (st : TypedStmt) (next : ℕ) (look : slice_get graph.blocks q.block ≡ Some (Act st next)) (inner after : List ℕ) (stands : Stand after next) where
      next-there : next < length graph.blocks
      next-there = spot-there p sets next (spot-at next after stands)

      part-there : tree_at q.block i ≡ stmt_code source jump_at next i st
      part-there = T-is p sets closed forward q.block i (spot-there p sets q.block along.spot) ∙ ap (block_code source jump_at i) look

      leads : Contains (jumps (Act st next)) next
      leads = Contains-push [] next

      -- a statement that gives no variable a value
      kept-along : (c : Cmd) → stmt_code source jump_at next i st ≡ c ∷ jump_at next (i + 1) → stmt_assigns st ≡ None
          → AllAlong p sets (record { block = next; env = q.env } ∷ points) (Run u (i + 1) env below)
      kept-along c e none =
          next-along next (i + 1) q.env env after stands (omega arith)
          (λ v h. after-kept (Act st next) look next v leads next-there (ap (λ o. not (is_that o v)) none) h)
          (part-behind the_code u i c (jump_at next (i + 1)) (part-is (c ∷ jump_at next (i + 1)) (part-there ∙ e)))

      module _ (n : ℕ) (kind : Kind) (assigned : stmt_assigns st ≡ Some n) (has : slice_get along.spot.function.f.kinds n ≡ Some kind) where
        has-room : n < length q.env
        has-room = let wide = along.wide in let l = get-within along.spot.function.f.kinds n kind has in omega (arith, wide, l)

        set-along : (c : Cmd) (w w' : Word) → stmt_code source jump_at next i st ≡ c ∷ jump_at next (i + 1) → w ≡ w'
            → AllAlong p sets (record { block = next; env = slice_set q.env n w' } ∷ points) (Run u (i + 1) (set_variable env n w) below)
        set-along c w w' e same =
            let long = set-long q.env n w' in
            next-along next (i + 1) (slice_set q.env n w') (set_variable env n w) after stands (omega (arith, long))
            (λ v h. set-is env n w v ∙ after-set (Act st next) look next n w w' leads next-there assigned has-room same v h)
            (part-behind the_code u i c (jump_at next (i + 1)) (part-is (c ∷ jump_at next (i + 1)) (part-there ∙ e)))

        -- what a read through null gives
        null-given : (held : Option Kind) → is_entry graph next ≡ true → kind_held held ≡ Some kind → variable_default the_code (entry_unit p sets next) n ≡ content_default held
        null-given held e h =
            ap (λ ks. default_of (slice_get ks n)) (unit-kinds p sets next e (spot-at next after stands)) ∙ ap default_of has ∙ sym (content-default held kind h)

        read-along : (w w' : Word) (held : Option Kind) → is_entry graph next ≡ true → w ≡ w' → kind_held held ≡ Some kind
            → AllAlong p sets (record { block = next; env = slice_set q.env n (content_of m w' (content_default held)) } ∷ points)
            (code_entered the_code (entry_unit p sets next)
            (words_after_read the_code (entry_unit p sets next) n (values p.structs (block_at m) env (closure_args source n next))
            (content_of m w (variable_default the_code (entry_unit p sets next) n))) below)
        read-along w w' held e same h =
            let x = entry_unit p sets next in
            let spot = spot-at next after stands in
            let value = content_of m w (variable_default the_code x n) in
            let value' = content_of m w' (content_default held) in
            let value_same : value ≡ value' = ap₂ (content_of m) same (null-given held e h) in
            let args = values p.structs (block_at m) env (closure_args source n next) in
            let words : words_after_read the_code x n args value ≡ map (instead n value env) (live_at next) =
            ap (λ ps. woven ps n value args) (params-are p sets next e next-there)
            ∙ ap (woven (map variable (live_at next)) n value) (values-own p.structs (block_at m) env (without n (live_at next)))
            ∙ woven-map (live_at next) n value env in
            let wide = along.wide in
            let long = set-long q.env n value' in (
              inl (enter-along p sets (record { block = next; env = slice_set q.env n value' }) spot (omega (arith, wide, long)) e
                  (words_after_read the_code x n args value) (instead n value env) words
                  (after-set (Act st next) look next n value value' leads next-there assigned has-room value_same)),
              others,
            )

        value-step : (value : TypedValue) → stmt_uses st ≡ value_mentions value → has_closure st ≡ is_read value → stmt_code source jump_at next i st ≡ value_code source jump_at next i n value
            → ValueTyped (context p along.spot.function.f) inner kind value → ValueUsage p.functions value
            → Step (now (command_at the_code u i)) (state_given (value_given graph q.env m value) n next q.env points)
        value-step (PlainValue e) mention closes is t usage =
            let same = expr-same (context p along.spot.function.f) inner m env q.env e t.0 (λ v h. used (Act st next) look v (rw mention h)) in
            step-by _ (Move (variable n) (expr_code e)) (jump_at next (i + 1)) _ part-there is (record {
              after = Run u (i + 1) (set_variable env n (expr_value p.structs (block_at m) env (expr_code e))) below;
              goes_on = λ again k. refl;
              steps = λ k. refl;
              along = set-along _ _ _ is same;
            })
        value-step (ReadValue at e) mention closes is t usage =
            let same = expr-same (context p along.spot.function.f) inner m env q.env e t.0 (λ v h. used (Act st next) look v (rw mention h)) in
            let entry = continuation-entry graph q.block next st look closes in
            let w = expr_value p.structs (block_at m) env (expr_code e) in
            let args = values p.structs (block_at m) env (closure_args source n next) in
            step-by _ (Read (variable n) (expr_code e) (unit_of source next) (closure_args source n next)) [] _ part-there is (record {
              after = code_entered the_code (entry_unit p sets next)
                  (words_after_read the_code (entry_unit p sets next) n args (content_of m w (variable_default the_code (entry_unit p sets next) n))) below;
              goes_on = λ again k. read-ran the_code again k m w (unit_of source next) n args below;
              steps = λ k. read-steps the_code k m w (unit_of source next) n args below;
              along = read-along w (value_of q.env m e) e.kind entry same t.1;
            })
        value-step (AllocValue at shape f name args) mention closes is t usage =
            let same = exprs-same (context p along.spot.function.f) inner m env q.env args t.2 (λ v h. used (Act st next) look v (rw mention h)) in
            let x = BlockWord (CoreBlock (length m.made)) in
            let new : made the_code (block_at m) (InitKey f (values p.structs (block_at m) env (map expr_code args)))
            ≡ made_by graph.structs (initialiser_in (slice_get graph.functions f)) (values_of q.env m args) m =
            ap (λ ws. made the_code (block_at m) (InitKey f ws)) same ∙ made-same m f (values_of q.env m args) usage in
            step-by _ (Alloc (variable n) f (map expr_code args)) (jump_at next (i + 1)) _ part-there is (record {
              after = Run u (i + 1) (set_variable env n x) below;
              goes_on = λ again k. ap (λ block. again (with_block m block) (Run u (i + 1) (set_variable env n x) below)) new;
              steps = λ k. refl;
              along = set-along _ x x is refl;
            })
        value-step (ModrefIntValue at) mention closes is t usage =
            let x = At (record { block = CoreBlock (length m.made); field = 0 }) in
            step-by _ (Modref (variable n) OneInt) (jump_at next (i + 1)) _ part-there is (record {
              after = Run u (i + 1) (set_variable env n x) below;
              goes_on = λ again k. ap (λ block. again (with_block m block) (Run u (i + 1) (set_variable env n x) below)) (made-int m);
              steps = λ k. refl;
              along = set-along _ x x is refl;
            })
        value-step (ModrefValue at shape) mention closes is t usage =
            let x = At (record { block = CoreBlock (length m.made); field = 0 }) in
            step-by _ (Modref (variable n) (OnePtr shape)) (jump_at next (i + 1)) _ part-there is (record {
              after = Run u (i + 1) (set_variable env n x) below;
              goes_on = λ again k. ap (λ block. again (with_block m block) (Run u (i + 1) (set_variable env n x) below)) (made-ptr m shape);
              steps = λ k. refl;
              along = set-along _ x x is refl;
            })

      write-step : (place e : TypedExpr) → stmt_uses st ≡ mentions place ++ mentions e → stmt_assigns st ≡ None
          → stmt_code source jump_at next i st ≡ WriteCmd (expr_code place) (expr_code e) ∷ jump_at next (i + 1)
          → ExprTyped (context p along.spot.function.f) inner place → ExprTyped (context p along.spot.function.f) inner e
          → Step (now (command_at the_code u i))
          (record { memory = memory_after_write m (value_of q.env m place) (value_of q.env m e); points = record { block = next; env = q.env } ∷ points })
      write-step place e mention none is t t' =
          let one = expr-same (context p along.spot.function.f) inner m env q.env place t
          (λ v h. used (Act st next) look v (rw mention (in-left v (mentions place) (mentions e) h))) in
          let two = expr-same (context p along.spot.function.f) inner m env q.env e t'
          (λ v h. used (Act st next) look v (rw mention (in-right v (mentions place) (mentions e) h))) in
          let w = expr_value p.structs (block_at m) env (expr_code place) in
          let value = expr_value p.structs (block_at m) env (expr_code e) in
          step-by _ (WriteCmd (expr_code place) (expr_code e)) (jump_at next (i + 1)) _ part-there is (record {
            after = Run u (i + 1) env below;
            goes_on = λ again k. write-ran the_code again k m w value (Run u (i + 1) env below) ∙ ap₂ (λ a b. again (memory_after_write m a b) (Run u (i + 1) env below)) one two;
            steps = λ k. write-steps k m w value (Run u (i + 1) env below);
            along = kept-along _ is none;
          })

      -- what comes after a call
      rest-along : is_entry graph next ≡ true → stmt_assigns st ≡ None
          → AllAlong p sets (record { block = next; env = q.env } ∷ points)
          (code_entered the_code (entry_unit p sets next) (values p.structs (block_at m) env (args_of source next)) below)
      rest-along e none = (
        inl (enter-along p sets (record { block = next; env = q.env }) (spot-at next after stands) along.wide e (values p.structs (block_at m) env (args_of source next)) env
            (values-own p.structs (block_at m) env (live_at next))
            (λ v h. after-kept (Act st next) look next v leads next-there (ap (λ o. not (is_that o v)) none) h)),
        others,
      )

      call-step : (f : ℕ) (args : List TypedExpr) → stmt_uses st ≡ all_mentions args → stmt_assigns st ≡ None → has_closure st ≡ true
          → stmt_code source jump_at next i st ≡ CallCmd f (call_args args (entry_set source (slice_get graph.functions f))) (unit_of source next) (args_of source next) ∷ []
          → All (ExprTyped (context p along.spot.function.f) inner) args → IsCore (slice_get p.functions f)
          → Step (now (command_at the_code u i)) (record { memory = m; points = points_at_entry graph f (values_of q.env m args) ++ record { block = next; env = q.env } ∷ points })
      call-step f args mention none closes is t core =
          let fn = core-function f core in
          let first = first_of fn.f.body fn.home.start in
          let ws = values_of q.env m args in
          let entry = continuation-entry graph q.block next st look closes in
          let words = values p.structs (block_at m) env (call_args args (entry_set source (slice_get graph.functions f))) in
          let words_are : words ≡ map (λ v. variable_of ws v) (live_at first) =
          ap (λ o. values p.structs (block_at m) env (call_args args (entry_set source o))) fn.home.function
          ∙ values-map p.structs (block_at m) env (λ v. arg_at (slice_get args v)) (λ v. variable_of ws v)
          (arg-same (context p along.spot.function.f) inner m env q.env args t (λ v h. used (Act st next) look v (rw mention h))) (live_at first) in
          let called : points_at_entry graph f ws ≡ called_point p sets f fn ws ∷ [] = ap (λ o. point_in o ws) fn.home.function in
          let after_rest = code_entered the_code (entry_unit p sets next) (values p.structs (block_at m) env (args_of source next)) below in
          let all : AllAlong p sets (called_point p sets f fn ws ∷ record { block = next; env = q.env } ∷ points) (code_entered the_code (entry_of the_code f) words after_rest) =
          (inl (call-along p sets f fn ws words words_are), rest-along entry none) in
          step-by _ (CallCmd f (call_args args (entry_set source (slice_get graph.functions f))) (unit_of source next) (args_of source next)) [] _ part-there is (record {
            after = code_entered the_code (entry_of the_code f) words after_rest;
            goes_on = λ again k. refl;
            steps = λ k. refl;
            along = subst (λ ps. AllAlong p sets (ps ++ record { block = next; env = q.env } ∷ points) (code_entered the_code (entry_of the_code f) words after_rest)) (sym called) all;
          })

    act-step : (st : TypedStmt) (next nx : ℕ) (inner after : List ℕ) → slice_get graph.blocks q.block ≡ Some (Act st next) → StmtTyped (context p along.spot.function.f) inner nx st
        → CoreUsage p.functions true st → IsSimple st → Stand after next → Step (now (command_at the_code u i)) (state_after_act graph m next q.env points st)
    unfolding StmtTyped CoreUsage
    act-step (Declare at n kind value) next nx inner after look t usage simple stands =
        value-step (Declare at n kind value) next look inner after stands n kind refl t.1 value refl refl refl t.2 usage
    act-step (Assign at n value) next nx inner after look t usage simple stands =
        let k = match (slice_get along.spot.function.f.kinds n) (λ kind. ValueTyped (context p along.spot.function.f) inner kind value) t.1 in
        value-step (Assign at n value) next look inner after stands n k.item refl k.is value refl refl refl k.holds usage
    act-step (SetField at left k field e) next nx inner after look t usage simple stands = absurd usage
    act-step (Write at place e) next nx inner after look t usage simple stands =
        let k = match (kind_held place.kind) (λ kind. ExprSuits (context p along.spot.function.f) inner kind e) t.1 in
        write-step (Write at place e) next look inner after stands place e refl refl refl t.0 k.holds.0
    act-step (Call at f args) next nx inner after look t usage simple stands =
        call-step (Call at f args) next look inner after stands f args refl refl refl refl t.0 usage
    act-step (If' at test _ first _ second) next nx inner after look t usage simple stands = absurd simple
    act-step (While' at test _ body) next nx inner after look t usage simple stands = absurd simple
    act-step (Return at) next nx inner after look t usage simple stands = absurd simple
    act-step (Break at) next nx inner after look t usage simple stands = absurd simple
    act-step (Continue at) next nx inner after look t usage simple stands = absurd simple

    step-seen : ViewIn p along.spot.k along.spot.function along.spot.seen q.block → over p sets q.block ≡ false
        → Step (now (command_at the_code u i)) (state_after_block graph m q.env points (slice_get graph.blocks q.block))
    step-seen (is_end look) runs = let ends : true ≡ false = sym (ap is_over look) ∙ runs in cc
    step-seen (tests test x y inner look within t int one two) runs =
        subst (λ o. Step (now (command_at the_code u i)) (state_after_block graph m q.env points o)) (sym look) (test-step test x y inner look t one two)
    step-seen (acts st next nx inner look within t usage simple stands) runs =
        subst (λ o. Step (now (command_at the_code u i)) (state_after_block graph m q.env points o)) (sym look) (act-step st next nx inner _ look t usage simple stands)

    pub step-along : over p sets q.block ≡ false → Step (now (command_at the_code u i)) (state_after_block graph m q.env points (slice_get graph.blocks q.block))
    step-along runs = step-seen (view-in p along.spot.k along.spot.function along.spot.seen q.block along.spot.stands) runs
