-- The tree of a block is one of right commands.
use Rattle.std.proofs.Common.{◌≡◌, inl, inr, ℕ, zero, suc, ◌+◌, ◌<◌, ◌≤◌, ◌==◌, not, Bool, true, false, if◌then◌else◌}
use Rattle.std.proofs.Common.{Option, Some, List, [], ◌∷◌, length, map, replicate, slice_get, slice_set, Contains, refl}
use Rattle.std.proofs.Common.{sym, ap, ◌∙◌, subst, arith}
use Rattle.std.proofs.lemmas.Bool.Decides.{eqb_tells}
use Rattle.std.proofs.lemmas.List.{length-replicate, length-set, append-nil}
use Rattle.std.proofs.lemmas.List.Elements.{Contains-push, Contains-append_left, Contains-append_right}
use Rattle.ceal_base.specs.Usage.{CoreUsage, ValueUsage, KeepsUsage}
use Rattle.ceal_base.specs.WellTyped.{ExprTyped, ExprSuits, StmtTyped, ValueTyped, WellTyped, seen_after, kind_held}
use Rattle.ceal_base.specs.declared.kind.Kind.{Kind}
use Rattle.ceal_base.specs.declared.kind.Kind.TheVariants.{Int, ModInt, ModPtr}
use Rattle.ceal_base.specs.declared.kind.Shape.TheVariants.{ModInt as OneInt, ModPtr as OnePtr}
use Rattle.ceal_base.specs.declared.typed.Typed.{Typed}
use Rattle.ceal_base.specs.declared.typed.TypedExpr.{TypedExpr}
use Rattle.ceal_base.specs.declared.typed.TypedStmt.{TypedStmt, Declare, Assign, SetField, Write, Call, If', While', Return, Break, Continue}
use Rattle.ceal_base.specs.declared.typed.TypedValue.{TypedValue}
use Rattle.ceal_base.specs.declared.typed.TypedValue.TheVariants.{Plain, Read, Alloc, ModrefInt, Modref}
use Rattle.ceal_code.proofs.Words.SameIsEqual.{both-true, nat-refl}
use Rattle.ceal_code.specs.Program.{Code}
use Rattle.ceal_code.specs.Step.{kinds_of}
use Rattle.ceal_code.specs.Valid.{type_of, fits, modref_fits, with_params, is_core, body_ok, unit_ok}
use Rattle.ceal_code.specs.declared.command.Cmd.{Cmd}
use Rattle.ceal_code.specs.declared.command.Cmd.TheVariants as command
use Rattle.ceal_flow.specs.Laws.{IsSimple}
use Rattle.ceal_flow.specs.Live.{AreLiveSets, mentions, value_mentions, uses, keeps}
use Rattle.ceal_flow.specs.Lowering.{core_at, graph_of}
use Rattle.ceal_flow.specs.Paths.{jumps}
use Rattle.ceal_flow.specs.Sets.{is_in, set_at}
use Rattle.ceal_flow.specs.declared.block.GraphBlock.{GraphBlock}
use Rattle.ceal_flow.specs.declared.block.GraphBlock.TheVariants.{Test, Act}
use Rattle.ceal_norm.specs.Entries.{is_read, has_closure, is_entry}
use Rattle.ceal_norm.specs.Expressions.{variable, expr_code}
use Rattle.ceal_norm.specs.Laws.{IsForward, source_of}
use Rattle.ceal_norm.specs.Units.{Source, code_of, Placed, unit_of, params_of, args_of, closure_args, jump_code, value_code, stmt_code, block_code, tree, unit_code, function_code}
use Rattle.ceal_norm.proofs.Validity.ExpressionTypes.{type_for}
use Rattle.ceal_norm.proofs.Validity.RightBodies.{Good, leaf, line, fork, good-paths, good-forward, good-tree}
use Rattle.ceal_norm.proofs.Validity.KnownVariables.{Knows, knows-set, knows-still, some-within, in-left, in-right, get-map, params-know, params-length, all-below}
use Rattle.ceal_norm.proofs.Validity.RightCommands.{Covers, kinds-are, seen-live, there-is, owner-is, unit-fits, read-fits, expr-is, slot-fits, place-fits, write-fits, alloc-fits, call-fits}
use Rattle.ceal_norm.proofs.Validity.LiveVariablesInScope.{match, used-live, jump-live}
use Rattle.ceal_norm.proofs.Validity.StatementsAtEntries.{Function, StandsIn, ViewIn, view-in, context}
use Rattle.ceal_norm.proofs.Validity.StatementsAtBlocks.{over, tests, acts}
use Rattle.ceal_norm.proofs.Validity.UnitsOfEntries.{continuation-entry}

-- a test that is not met
pub not-same : (n v : ℕ) → (n ≡ v → ⊥) → not (n == v) ≡ true
not-same n v h = elim (eqb_tells n v) [ inl q ↦ absurd (h q.1) | inr q ↦ rw q.0 refl ]

module _ (p : Typed) (typed : WellTyped p) (kept : KeepsUsage p) (sets : List (List ℕ)) (live : AreLiveSets (graph_of p).blocks sets) (forward : IsForward (graph_of p))
    (k : ℕ) (fn : Function p k) where
  abbrev src : Source
  src = source_of p sets

  abbrev code : Code
  code = code_of src

  abbrev Here : ℕ → List Bool → Bool → List Cmd → Type 0
  Here i known stepped part = Good code k i known stepped part

  abbrev At : List ℕ → ℕ → Type 0
  At seen b = StandsIn p k fn seen b

  abbrev Cover : List Bool → ℕ → Type 0
  Cover known b = Covers sets known b

  abbrev all : ℕ
  all = length (graph_of p).blocks

  -- the tree of n blocks is right at each block that has at most n blocks after it
  abbrev Grows : ℕ → Type 0
  Grows d = (b i : ℕ) (seen : List ℕ) (known : List Bool) (stepped : Bool) → At seen b → Cover known b → length known ≡ length fn.f.kinds → all ≤ b + d
      → Here i known stepped (tree src d b i)

  module _ (d : ℕ) (grows : Grows d) where
    abbrev on : Placed
    on = jump_code src (tree src d)

    -- where a jump leads
    jump-good : (c i : ℕ) (seen : List ℕ) (known : List Bool) → At seen c → Cover known c → length known ≡ length fn.f.kinds → (is_entry (graph_of p) c ≡ false → all ≤ c + d)
        → Here i known true (on c i)
    jump-good c i seen known st cover long deep = go (is_entry (graph_of p) c) refl
      where
        go : (e : Bool) → is_entry (graph_of p) c ≡ e
            → Here i known true (if e then command.Tail (unit_of src c) (args_of src c) ∷ [] else tree src d c i)
        go true e = leaf (command.Tail (unit_of src c) (args_of src c)) refl (unit-fits p typed kept sets live k fn known seen c st e cover) (λ j. refl) (λ w. refl)
        go false e = grows c i seen known true st cover long (deep e)

    -- what a variable is given
    module _ (n i next : ℕ) (seen outer : List ℕ) (known : List Bool) (kind : Kind) (slot : slice_get fn.f.kinds n ≡ Some kind) (long : length known ≡ length fn.f.kinds)
        (st : At outer next) (carries : (v : ℕ) → is_in v (set_at sets next) ≡ true → (v ≡ n → ⊥) → Knows known v) (deep : is_entry (graph_of p) next ≡ false → all ≤ next + d) where
      set-long : length (slice_set known n true) ≡ length fn.f.kinds
      set-long = length-set known n true ∙ long

      set-cover : Cover (slice_set known n true) next
      set-cover v h = elim (eqb_tells v n) [
        | inl q ↦
            let within : n < length known = subst (λ m. n < m) (sym long) (some-within fn.f.kinds n (rw slot refl)) in
            subst (λ w. Knows (slice_set known n true) w) (sym q.1) (knows-set known n within)
        | inr q ↦ knows-still known n v (carries v h q.1)
      ]

      rest-good : Here (i + 1) (slice_set known n true) true (on next (i + 1))
      rest-good = jump-good next (i + 1) outer (slice_set known n true) st set-cover set-long deep

      modref-int : (o : Option Kind) → o ≡ Some ModInt → modref_fits o OneInt ≡ true
      modref-int o e = rw e refl

      modref-ptr : (o : Option Kind) (s : ℕ) → o ≡ Some (ModPtr s) → modref_fits o (OnePtr s) ≡ true
      modref-ptr o s e = rw e (nat-refl s)

      slot-is : slice_get (kinds_of code k) n ≡ Some kind
      slot-is = ap (λ ks. slice_get ks n) (kinds-are p typed kept sets live k fn) ∙ slot

      value-good : (stepped : Bool) (value : TypedValue) → ValueTyped (context p fn.f) seen kind value → ValueUsage p.functions value
          → ((v : ℕ) → is_in v (value_mentions value) ≡ true → Knows known v) → (is_read value ≡ true → is_entry (graph_of p) next ≡ true)
          → Here i known stepped (value_code src on next i n value)
      value-good stepped (Plain e) t u h closure =
          line (command.Move (variable n) (expr_code e)) (on next (i + 1)) (slice_set known n true) refl
          (slot-fits p typed kept sets live k fn known seen n kind e slot t h) (λ j. refl) (λ w. refl) rest-good
      value-good stepped (Read at e) t u h closure =
          leaf (command.Read (variable n) (expr_code e) (unit_of src next) (closure_args src n next)) refl
          (both-true _ _ (place-fits p typed kept sets live k fn known seen n kind e slot t.0 t.1 h) (read-fits p typed kept sets live k fn known outer next n st (closure refl) carries))
          (λ j. refl) (λ w. refl)
      value-good stepped (Alloc at shape f name args) t u h closure =
          line (command.Alloc (variable n) f (map expr_code args)) (on next (i + 1)) (slice_set known n true) refl
          (alloc-fits p typed kept sets live k fn known seen n f shape kind args slot t.1 t.2 t.3 u h) (λ j. refl) (λ w. refl) rest-good
      value-good stepped (ModrefInt at) t u h closure =
          line (command.Modref (variable n) OneInt) (on next (i + 1)) (slice_set known n true) refl (modref-int _ (slot-is ∙ ap Some t)) (λ j. refl) (λ w. refl) rest-good
      value-good stepped (Modref at s) t u h closure =
          line (command.Modref (variable n) (OnePtr s)) (on next (i + 1)) (slice_set known n true) refl (modref-ptr _ s (slot-is ∙ ap Some t.1)) (λ j. refl) (λ w. refl) rest-good

    module _ (b i : ℕ) (seen : List ℕ) (known : List Bool) (stepped : Bool) (cover : Cover known b) (long : length known ≡ length fn.f.kinds) (deep : all ≤ b + suc d) where
      -- a jump that leads to no entry leaves fewer blocks
      fewer : (c : ℕ) (block : GraphBlock) → slice_get (graph_of p).blocks b ≡ Some block → Contains (jumps block) c → is_entry (graph_of p) c ≡ false → all ≤ c + d
      fewer c block look j e = let l = forward b c (rw look j) e in omega (arith, l, deep)

      -- what is live after a block that does not assign it is known
      carried : (c v : ℕ) (block : GraphBlock) → slice_get (graph_of p).blocks b ≡ Some block → keeps v block ≡ true
          → Contains (jumps block) c → c < all → is_in v (set_at sets c) ≡ true → Knows known v
      carried c v block look keep j within h = cover v (jump-live (graph_of p).blocks sets live b c v block look keep j within h)

      used : (v : ℕ) (block : GraphBlock) → slice_get (graph_of p).blocks b ≡ Some block → is_in v (uses block) ≡ true → Knows known v
      used v block look h = cover v (used-live (graph_of p).blocks sets live b v block look h)

      module _ (next : ℕ) where
        only : Contains (next ∷ []) next
        only = Contains-push [] next

        stmt-good : (s : TypedStmt) (inner : List ℕ) (nx : ℕ) → slice_get (graph_of p).blocks b ≡ Some (Act s next) → StmtTyped (context p fn.f) inner nx s → CoreUsage p.functions true s → IsSimple s
            → At (seen_after inner s) next → (has_closure s ≡ true → is_entry (graph_of p) next ≡ true) → Here i known stepped (stmt_code src on next i s)
        unfolding StmtTyped CoreUsage
        stmt-good (Declare at n kind value) inner nx look t u simple st closure =
            value-good n i next inner (n ∷ inner) known kind t.1 long st
            (λ v h different. carried next v (Act (Declare at n kind value) next) look (not-same n v (λ e. different (sym e))) only (there-is p typed kept sets live k fn _ next st) h)
            (fewer next _ look only) stepped value t.2 u (λ v h. used v (Act (Declare at n kind value) next) look h) closure
        stmt-good (Assign at n value) inner nx look t u simple st closure =
            let m = match (slice_get fn.f.kinds n) (λ kind. ValueTyped (context p fn.f) inner kind value) t.1 in
            value-good n i next inner inner known m.item m.is long st
            (λ v h different. carried next v (Act (Assign at n value) next) look (not-same n v (λ e. different (sym e))) only (there-is p typed kept sets live k fn _ next st) h)
            (fewer next _ look only) stepped value m.holds u (λ v h. used v (Act (Assign at n value) next) look h) closure
        stmt-good (SetField at left j field e) inner nx look t u simple st closure = absurd u
        stmt-good (Write at place e) inner nx look t u simple st closure =
            let m = match (kind_held place.kind) (λ kind. ExprSuits (context p fn.f) inner kind e) t.1 in
            line (command.Write (expr_code place) (expr_code e)) (on next (i + 1)) known refl
            (write-fits p typed kept sets live k fn known inner place e m.item t.0 m.is m.holds (λ v h. used v (Act (Write at place e) next) look (in-left v (mentions place) (mentions e) h))
            (λ v h. used v (Act (Write at place e) next) look (in-right v (mentions place) (mentions e) h)))
            (λ j. refl) (λ w. refl)
            (jump-good next (i + 1) inner known st (λ v h. carried next v (Act (Write at place e) next) look refl only (there-is p typed kept sets live k fn _ next st) h)
            long (fewer next _ look only))
        stmt-good (Call at f args) inner nx look t u simple st closure =
            leaf _ refl
            (both-true _ _ (call-fits p typed kept sets live k fn known inner f args t.0 t.1 u (λ v h. used v (Act (Call at f args) next) look h))
            (unit-fits p typed kept sets live k fn known inner next st (closure refl)
            (λ v h. carried next v (Act (Call at f args) next) look refl only (there-is p typed kept sets live k fn _ next st) h)))
            (λ j. refl) (λ w. refl)
        stmt-good (If' at test _ first _ second) inner nx look t u simple st closure = absurd simple
        stmt-good (While' at test _ body) inner nx look t u simple st closure = absurd simple
        stmt-good (Return at) inner nx look t u simple st closure = absurd simple
        stmt-good (Break at) inner nx look t u simple st closure = absurd simple
        stmt-good (Continue at) inner nx look t u simple st closure = absurd simple

      -- a test of a number
      test-fits : (inner : List ℕ) (test : TypedExpr) → ExprTyped (context p fn.f) inner test → test.kind ≡ Some Int → ((v : ℕ) → is_in v (mentions test) ≡ true → Knows known v)
          → fits Int (type_of p.structs (kinds_of code k) known (expr_code test)) ≡ true
      test-fits inner test t e h = ap (fits Int) (expr-is p typed kept sets live k fn known inner test t h ∙ ap (λ k. Some (type_for k)) e)

      block-good : ViewIn p k fn seen b
          → Here i known stepped (block_code src on i (slice_get (graph_of p).blocks b))
      block-good (over look) = rw look (leaf command.Done refl refl (λ j. refl) (λ w. refl))
      block-good (tests test x y inner look within t int one two) =
          let block = Test test x y in
          let to-x : Contains (jumps block) x = Contains-append_left (x ∷ []) (y ∷ []) x (Contains-push [] x) in
          let to-y : Contains (jumps block) y = Contains-append_right (x ∷ []) (y ∷ []) y (Contains-push [] y) in
          let first = on x (i + 1) in
          let second = on y (i + 1 + length first) in
          rw look (fork (expr_code test) first second refl (test-fits inner test t int (λ v h. used v block look h))
          (jump-good x (i + 1) inner known one (λ v h. carried x v block look refl to-x (there-is p typed kept sets live k fn _ x one) h) long (fewer x block look to-x))
          (jump-good y (i + 1 + length first) inner known two (λ v h. carried y v block look refl to-y (there-is p typed kept sets live k fn _ y two) h) long (fewer y block look to-y)))
      block-good (acts s next nx inner look within t usage simple st) =
          rw look (stmt-good next s inner nx look t usage simple st (λ h. continuation-entry (graph_of p) b next s look h))

  grows-all : (d : ℕ) → Grows d
  unfolding tree
  grows-all zero b i seen known stepped st cover long deep = absurd (let l = there-is p typed kept sets live k fn seen b st in omega (arith, l, deep))
  grows-all (suc d) b i seen known stepped st cover long deep =
      block-good d (grows-all d) b i seen known stepped cover long deep
      (view-in p k fn seen b st)

  -- the unit of an entry is right
  module _ (seen : List ℕ) (b : ℕ) (st : At seen b) where
    none-known : List Bool
    none-known = replicate (length (kinds_of code k)) false

    first-known : List Bool
    first-known = with_params none-known (params_of src b)

    first-long : length first-known ≡ length fn.f.kinds
    unfolding first-known none-known
    first-long =
        params-length (params_of src b) none-known ∙ length-replicate (length (kinds_of code k)) false
        ∙ ap length (kinds-are p typed kept sets live k fn)

    live-less : (v : ℕ) → is_in v (set_at sets b) ≡ true → v < length (kinds_of code k)
    live-less v h = subst (λ ks. v < length ks) (sym (kinds-are p typed kept sets live k fn)) (seen-live p typed kept sets live k fn seen b v st h).1

    first-cover : Cover first-known b
    unfolding first-known none-known
    first-cover v h =
        params-know (set_at sets b) none-known v
        (subst (λ n. v < n) (sym (length-replicate (length (kinds_of code k)) false)) (live-less v h)) (inl h)

    unit-good : Here 0 first-known false (tree src all b 0)
    unit-good = grows-all all b 0 seen first-known false st first-cover first-long (omega arith)

    unit-body : body_ok code k (params_of src b) (tree src all b 0) ≡ true
    unfolding first-known none-known
    unit-body =
        let body = tree src all b 0 in
        both-true _ _ (both-true _ _ (good-forward code k 0 first-known false body unit-good) (good-tree code k first-known false body unit-good))
        (good-paths code k body (length body) 0 first-known false body [] [] unit-good (sym (append-nil body)) refl (omega arith))

    pub unit-right : unit_ok code (unit_code src b) ≡ true
    unfolding unit_ok
    unit-right =
        let at : slice_get code.functions k ≡ Some (function_code src (core_at fn.f fn.home.start)) =
        get-map (function_code src) (graph_of p).functions k (core_at fn.f fn.home.start) fn.home.function in
        rw (owner-is p typed kept sets live k fn seen b st)
        (both-true _ _ (ap is_core at) (both-true _ _ (all-below (length (kinds_of code k)) (set_at sets b) live-less) unit-body))
