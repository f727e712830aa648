-- What an engine keeps is the run from scratch on its present inputs.
use Rattle.std.proofs.Common.{◌≡◌, ℕ, zero, suc, ◌+◌, ◌<◌, ◌≤◌, ◌*◌, ◌==◌, Bool, true, false, if◌then◌else◌, Option, Some, None, List, [], ◌∷◌, length, map, slice_get, slice_index, refl, sym, ap}
use Rattle.std.proofs.Common.{◌∙◌, subst, arith}
use Rattle.std.specs.Option.{option_map}
use Rattle.std.proofs.lemmas.Bool.{false≢true}
use Rattle.std.specs.Prelude.{IfSome, IsSome, is_some}
use Rattle.ceal_base.proofs.TraceLemmas.{trace-flat}
use Rattle.ceal_base.specs.Block.{Block}
use Rattle.ceal_base.specs.Finished.{Finished}
use Rattle.ceal_base.specs.Fitting.{memory_fits}
use Rattle.ceal_base.specs.Same.{Same, index_of, renamed_block}
use Rattle.ceal_base.specs.Trace.{Trace, flat, trace_of, steps_of, blocks_of}
use Rattle.ceal_base.specs.declared.call.Call.{Call}
use Rattle.ceal_base.specs.declared.word.BlockId.{BlockId}
use Rattle.ceal_base.specs.declared.word.BlockId.TheVariants.{Input, Core}
use Rattle.ceal_code.proofs.Replay.AfterLaws.{store-law, inputs-law}
use Rattle.ceal_code.proofs.Replay.RunEnds.{ended-law}
use Rattle.ceal_code.proofs.Replay.FinalMemory.{list-same}
use Rattle.ceal_code.proofs.Alike.BlockPairs.{one_if}
use Rattle.ceal_code.proofs.Replay.ReplayedCall.{trace-law, all-core}
use Rattle.ceal_code.proofs.Words.SameIsEqual.{some-same, none-some}
use Rattle.ceal_code.proofs.TypedCode.TypedRun.{progress}
use Rattle.ceal_code.specs.After.{memory_after}
use Rattle.ceal_code.specs.Determined.{Determined}
use Rattle.ceal_code.specs.Fresh.{fresh}
use Rattle.ceal_code.specs.Program.{Code}
use Rattle.ceal_code.specs.Replay.{count, core_numbers, bases, plain_of, block_after, inputs_after, IsHonest}
use Rattle.ceal_code.specs.Valid.{valid}
use Rattle.ceal_engine.proofs.LiveCount.{live-are}
use Rattle.ceal_engine.proofs.MoreMemory.{core-none}
use Rattle.ceal_engine.proofs.RunMemory.{allocs-flat, low-numbers, inputs-held, cores-held, steps-held}
use Rattle.ceal_engine.specs.Engine.{EngineState, ReplaysCall, IsPresent, IsTraced, IsEngine, IsTidy, IsHeapOf, IsWhole, has_run, core, stands_for}
use Rattle.ceal_engine.specs.Keeping.{Kept, phase_at, phase_of, running_in, forest_in, timeline_in, heap_in, steps_kept, queued_kept, marked_kept, store_in, state_of}
use Rattle.ceal_engine.specs.Keeping.{IsPartKept, KeepsRun, Keeps, EngineInvariant}
use Rattle.ceal_engine.specs.Runs.{trace_in}
use Rattle.ceal_engine.specs.declared.phase.Phase.{Phase}
use Rattle.ceal_engine.specs.declared.phase.Phase.TheVariants.{New, Finished as IsFinished, Pending, Partial, Dropped}
use Rattle.ceal_engine.specs.declared.run.Run.{Run}
use Rattle.ceal_engine.specs.declared.run.Run.TheVariants as its
use Rattle.ceal_engine.specs.declared.run.Stage.{Stage}
use Rattle.ceal_engine.specs.declared.run.Stage.TheVariants as stage
use Rattle.ceal_heap.specs.Heap.{live_count, next}
use Rattle.ceal_repair.specs.Answers.{IsKeptRun}
use Rattle.ceal_repair.specs.declared.running.Running.{Running}
use Rattle.ceal_theory.specs.Adjust.{Above}
use Rattle.ceal_theory.specs.KnownContent.{allocs}
use Rattle.ceal_trace.specs.Items.{forest_of}

index-below : (b : ℕ) (bs : List ℕ) → 1 ≤ count b bs → index_of bs b < length bs
index-below b [] h = absurd (omega (arith, h))
index-below b (c ∷ bs) h = go (c == b) refl (index-below b bs)
  where
    none : (c == b) ≡ false → one_if b c ≡ 0
    none e = rw e refl

    go : (t : Bool) → (c == b) ≡ t → (1 ≤ count b bs → index_of bs b < length bs) → (if t then 0 else index_of bs b + 1) < suc (length bs)
    go true e f = omega arith
    go false e f = omega (arith, f (omega (arith, h, none e)))

module _ (code : Code) (ok : valid code ≡ true) (fuel : ℕ) (inputs : List Block) (call : Call) (run : Running) (l : Trace) (of : IsKeptRun code inputs call.function call.args fuel l run)
    (honest : IsHonest code inputs l) where
  abbrev det : Determined code inputs call.function call.args l honest.after
  det = trace-law code inputs call.function call.args of.fits l of.replays honest

  abbrev ran : Finished
  ran = record { memory = det.memory; steps = steps_of l; blocks = length (blocks_of l) }

  ends : fresh code call.function call.args inputs fuel ≡ Some ran
  ends = det.ends fuel of.few

  after-is : (b : BlockId) → memory_after code inputs l b ≡ block_after code (plain_of code inputs l) honest.after b
  after-is b = ap (λ s. block_after code (plain_of code inputs l) s b) (sym (store-law code (bases code inputs) honest.after l honest.walk))

  input-blocks : (n : ℕ) → slice_get (store_in code inputs (Some run)).inputs n ≡ memory_after code inputs l (Input n)
  input-blocks = inputs-held code inputs call.function call.args fuel l run of honest

  core-blocks : (n : ℕ) → core (store_in code inputs (Some run)) n ≡ memory_after code inputs l (Core n)
  core-blocks = cores-held code inputs call.function call.args fuel l run of honest

  steps-are : steps_kept (Some run) ≡ steps_of l
  steps-are = steps-held code inputs call.function call.args fuel l run of

  -- the live blocks are those that the trace allocates
  live-count : live_count run.heap ≡ length (blocks_of l)
  live-count =
      live-are run.heap (allocs (forest_of run.tables.trace.nodes)) of.stands.blocks.lives.once of.stands.blocks.lives.live
      ∙ (ap length (ap allocs of.stands.items ∙ allocs-flat l) ∙ all-core of.replays.yields)

  module _ (s : Stage) where
    abbrev e : EngineState
    e = state_of code fuel inputs (Some call) (its.Kept run s)

    inputs-are : e.memory.inputs ≡ inputs_after code honest.after 0 inputs
    inputs-are =
        list-same e.memory.inputs (inputs_after code honest.after 0 inputs)
        (λ n. input-blocks n ∙ (after-is (Input n) ∙ sym (inputs-law code inputs call.function call.args l of.replays honest.after n)))

    same : Same (core_numbers (blocks_of l)) e.memory.inputs (core e.memory) det.memory
    same = record {
      distinct = det.same.distinct;
      each_input = ap (map (renamed_block (core_numbers (blocks_of l)))) inputs-are ∙ det.same.each_input;
      count = det.same.count;
      each_core = λ i h.
          ap (option_map (renamed_block (core_numbers (blocks_of l)))) (core-blocks (slice_index (core_numbers (blocks_of l)) i) ∙ after-is (Core (slice_index (core_numbers (blocks_of l)) i)))
          ∙ det.same.each_core i h;
    }

    no-block : (o : Option Block) → IsSome o → o ≡ None → ⊥
    no-block None h k = absurd (grind (arith, h))
    no-block (Some block) h k = none-some block (sym k)

    only : (n : ℕ) → IsSome (core e.memory n) → index_of (core_numbers (blocks_of l)) n < length (core_numbers (blocks_of l))
    only n h = go (count n (core_numbers (blocks_of l))) refl
      where
        go : (k : ℕ) → count n (core_numbers (blocks_of l)) ≡ k → index_of (core_numbers (blocks_of l)) n < length (core_numbers (blocks_of l))
        go zero c = absurd (no-block (core e.memory n) h (core-blocks n ∙ core-none code inputs call.function call.args l of.replays n c))
        go (suc k) c = index-below n (core_numbers (blocks_of l)) (omega (arith, c))

    memory-fits : memory_fits code.structs det.memory ≡ true
    memory-fits =
        let end = (ended-law code inputs call.function call.args fuel ran ends).0 in
        (progress code ok inputs call.function call.args of.fits det.memory end.stack end.reaches).memory

    pub is-present : IsPresent (state_of code fuel inputs (Some call) (its.Kept run s))
    is-present = record {
      run = ran;
      fresh = ends;
      is = record { numbers = core_numbers (blocks_of l); same = same; only = only; steps = steps-are; live = live-count; fits = memory-fits };
    }

    same-run : (r : Finished) → fresh code call.function call.args inputs fuel ≡ Some r → Same (core_numbers (blocks_of l)) e.memory.inputs (core e.memory) r.memory
    same-run r h = subst (λ (z : Finished). Same (core_numbers (blocks_of l)) e.memory.inputs (core e.memory) z.memory) (some-same ran r (sym ends ∙ h)) same

    pub is-traced : IsTraced (state_of code fuel inputs (Some call) (its.Kept run s)) l
    is-traced = record { honest = honest; same = same-run; inputs = input-blocks; cores = core-blocks; steps = steps-are; live = live-count }

-- the trace that is kept
pub trace-kept : (code : Code) (fuel : ℕ) (inputs : List Block) (call : Call) (run : Running) (l : Trace) → IsKeptRun code inputs call.function call.args fuel l run → trace_in run ≡ Some l
trace-kept code fuel inputs call run l of = ap trace_of of.stands.items ∙ trace-flat l

pub not-both : (phase : Phase) → phase ≡ Partial → IsWhole phase → ⊥
not-both phase e h = absurd (grind (arith, rw e at h))

-- a run that is no part of a repair is whole
pub other-whole : (phase : Phase) → has_run phase ≡ true → (phase ≡ Partial → ⊥) → IsWhole phase
other-whole New h n = absurd (grind (arith, h))
other-whole IsFinished h n = refl
other-whole Pending h n = refl
other-whole Partial h n = absurd (n refl)
other-whole Dropped h n = absurd (grind (arith, h))

pub whole-run : (phase : Phase) → IsWhole phase → has_run phase ≡ true
whole-run New h = absurd (grind (arith, h))
whole-run IsFinished h = refl
whole-run Pending h = refl
whole-run Partial h = refl
whole-run Dropped h = absurd (grind (arith, h))

some-run : (s : Stage) → has_run (phase_at s) ≡ true
some-run stage.Finished = refl
some-run stage.Pending = refl
some-run stage.Partial = refl

-- A run outside Partial. In Finished its trace is honest on the present inputs, and no read is queued.
pub record IsWholeRun (code : Code) (fuel : ℕ) (inputs : List Block) (call : Call) (run : Running) (phase : Phase) : Type 0 where
  pub whole : IsWhole phase
  pub trace : Trace
  pub of : IsKeptRun code inputs call.function call.args fuel trace run
  pub honest : phase ≡ IsFinished → IsHonest code inputs trace
  pub idle : phase ≡ IsFinished → run.tables.stale.stamps ≡ []

pub whole-kept : (code : Code) (fuel : ℕ) (inputs : List Block) (call : Call) (run : Running) (s : Stage) → KeepsRun code fuel inputs call run s → IsWhole (phase_at s)
    → IsWholeRun code fuel inputs call run (phase_at s)
whole-kept code fuel inputs call run stage.Finished k w = record { whole = refl; trace = k.trace; of = k.of; honest = λ e. k.honest; idle = λ e. k.idle }
whole-kept code fuel inputs call run stage.Pending k w = record { whole = refl; trace = k.0; of = k.1; honest = λ e. absurd (grind (arith, e)); idle = λ e. absurd (grind (arith, e)) }
whole-kept code fuel inputs call run stage.Partial k w = absurd (grind (arith, w))

-- the trace of a part of a repair
pub part-trace : (code : Code) (fuel : ℕ) (inputs : List Block) (call : Call) (run : Running) (k : IsPartKept code fuel inputs call run) → trace_in run ≡ Some k.repair.items
part-trace code fuel inputs call run k = ap trace_of k.of.stands.items ∙ trace-flat k.repair.items

-- what is true of an engine without a run, of one with a whole run, and of one with a part of a repair
pub by-run : (code : Code) (fuel : ℕ) (inputs : List Block) (P : Run → Option Call → Type 0) → P its.New None → ((c : Call) → P its.Dropped (Some c))
    → ((c : Call) (r : Running) (s : Stage) → IsWholeRun code fuel inputs c r (phase_at s) → P (its.Kept r s) (Some c))
    → ((c : Call) (r : Running) → IsPartKept code fuel inputs c r → P (its.Kept r stage.Partial) (Some c))
    → (run : Run) (call : Option Call) → Keeps code fuel inputs run call → P run call
by-run code fuel inputs P new dropped whole part its.New call k = subst (P its.New) (sym k) new
by-run code fuel inputs P new dropped whole part (its.Kept run s) None k = elim k [ ]
by-run code fuel inputs P new dropped whole part (its.Kept run stage.Finished) (Some call) k = whole call run stage.Finished (whole-kept code fuel inputs call run stage.Finished k refl)
by-run code fuel inputs P new dropped whole part (its.Kept run stage.Pending) (Some call) k = whole call run stage.Pending (whole-kept code fuel inputs call run stage.Pending k refl)
by-run code fuel inputs P new dropped whole part (its.Kept run stage.Partial) (Some call) k = part call run k
by-run code fuel inputs P new dropped whole part its.Dropped None k = absurd (false≢true k)
by-run code fuel inputs P new dropped whole part its.Dropped (Some call) k = dropped call

module _ (code : Code) (fuel : ℕ) (inputs : List Block) (kept : Kept) (run : Run) (s : EngineInvariant code fuel inputs kept run) where
  by : (P : Run → Option Call → Type 0) → P its.New None → ((c : Call) → P its.Dropped (Some c))
      → ((c : Call) (r : Running) (s : Stage) → IsWholeRun code fuel inputs c r (phase_at s) → P (its.Kept r s) (Some c))
      → ((c : Call) (r : Running) → IsPartKept code fuel inputs c r → P (its.Kept r stage.Partial) (Some c)) → P run kept.call
  by P new dropped whole part = by-run code fuel inputs P new dropped whole part run kept.call s.keeps

  uncalled : phase_of run ≡ New → kept.call ≡ None
  uncalled =
      by (λ r c. phase_of r ≡ New → c ≡ None) (λ e. refl) (λ c e. absurd (grind (arith, e))) (λ c r s k e. let w = k.whole in absurd (grind (arith, rw e at w))) (λ c r k e. absurd (grind (arith, e)))

  new : kept.call ≡ None → phase_of run ≡ New
  new = by (λ r c. c ≡ None → phase_of r ≡ New) (λ e. refl) (λ c e. none-some c (sym e)) (λ c r s k e. none-some c (sym e)) (λ c r k e. none-some c (sym e))

  is-kept : is_some (stands_for (forest_in (running_in run))) ≡ has_run (phase_of run)
  is-kept = by (λ r c. is_some (stands_for (forest_in (running_in r))) ≡ has_run (phase_of r)) refl (λ c. refl)
      (λ c r s k. ap is_some (trace-kept code fuel inputs c r k.trace k.of) ∙ sym (some-run s)) (λ c r k. ap is_some (part-trace code fuel inputs c r k))

  flat-form : forest_in (running_in run) ≡ option_map flat (stands_for (forest_in (running_in run)))
  flat-form = by (λ r c. forest_in (running_in r) ≡ option_map flat (stands_for (forest_in (running_in r)))) refl (λ c. refl)
      (λ c r s k. ap Some k.of.stands.items ∙ sym (ap (option_map flat) (trace-kept code fuel inputs c r k.trace k.of)))
      (λ c r k. ap Some k.of.stands.items ∙ sym (ap (option_map flat) (part-trace code fuel inputs c r k)))

  nodes-are : forest_in (running_in run) ≡ option_map (λ t. forest_of t.nodes) (timeline_in (running_in run))
  nodes-are = by (λ r c. forest_in (running_in r) ≡ option_map (λ t. forest_of t.nodes) (timeline_in (running_in r))) refl (λ c. refl) (λ c r s k. refl) (λ c r k. refl)

  tidy : IfSome (timeline_in (running_in run)) (λ t. IfSome (heap_in (running_in run)) (IsTidy t))
  tidy = by (λ r c. IfSome (timeline_in (running_in r)) (λ t. IfSome (heap_in (running_in r)) (IsTidy t))) tt (λ c. tt)
      (λ c r s k. record { nests = k.of.stands.nests; lives = k.of.stands.blocks.lives }) (λ c r k. record { nests = k.of.stands.nests; lives = k.of.stands.blocks.lives })

  -- what is true of the trace of a run
  of-trace : (P : EngineState → Trace → Type 0)
      → ((c : Call) (r : Running) (s : Stage) (k : IsWholeRun code fuel inputs c r (phase_at s)) → P (state_of code fuel inputs (Some c) (its.Kept r s)) k.trace)
      → IsWhole (phase_of run) → IfSome (stands_for (forest_in (running_in run))) (P (state_of code fuel inputs kept.call run))
  of-trace P f = by (λ r c. IsWhole (phase_of r) → IfSome (stands_for (forest_in (running_in r))) (P (state_of code fuel inputs c r))) (λ w. tt) (λ c w. tt)
      (λ c r s k w. subst (λ o. IfSome o (P (state_of code fuel inputs (Some c) (its.Kept r s)))) (sym (trace-kept code fuel inputs c r k.trace k.of)) (f c r s k))
      (λ c r k w. absurd (grind (arith, w)))

  traced : phase_of run ≡ IsFinished → IfSome (stands_for (forest_in (running_in run))) (IsTraced (state_of code fuel inputs kept.call run))
  traced = by (λ r c. phase_of r ≡ IsFinished → IfSome (stands_for (forest_in (running_in r))) (IsTraced (state_of code fuel inputs c r))) (λ e. tt) (λ c e. tt)
      (λ c r s' k e. subst (λ o. IfSome o (IsTraced (state_of code fuel inputs (Some c) (its.Kept r s')))) (sym (trace-kept code fuel inputs c r k.trace k.of))
      (is-traced code s.is_valid fuel inputs c r k.trace k.of (k.honest e) s')) (λ c r k e. absurd (grind (arith, e)))

  replays : IsWhole (phase_of run) → IfSome (stands_for (forest_in (running_in run))) (ReplaysCall (state_of code fuel inputs kept.call run))
  replays = of-trace ReplaysCall (λ c r s k. k.of.replays)

  abbrev HoldsTrace : EngineState → Trace → Type 0
  HoldsTrace e l = IfSome e.heap (IsHeapOf e.code e.inputs l)

  held : IsWhole (phase_of run) → IfSome (stands_for (forest_in (running_in run))) (HoldsTrace (state_of code fuel inputs kept.call run))
  held = of-trace HoldsTrace (λ c r s k. record { words = k.of.stands.words; released = k.of.stands.released; slots = k.of.stands.slots })

  abbrev HasLowNumbers : EngineState → Trace → Type 0
  HasLowNumbers e l = IfSome e.heap (λ heap. Above (next heap) l)

  numbers : IsWhole (phase_of run) → IfSome (stands_for (forest_in (running_in run))) (HasLowNumbers (state_of code fuel inputs kept.call run))
  numbers = of-trace HasLowNumbers (λ c r s k. low-numbers code inputs k.trace r k.of.stands)

  few-numbers : IfSome (heap_in (running_in run)) (λ heap. next heap ≤ 2 * fuel)
  few-numbers = by (λ r c. IfSome (heap_in (running_in r)) (λ heap. next heap ≤ 2 * fuel)) tt (λ c. tt) (λ c r s k. k.of.numbers) (λ c r k. k.of.numbers)

  pub sound-present : phase_of run ≡ IsFinished → IsPresent (state_of code fuel inputs kept.call run)
  sound-present = by (λ r c. phase_of r ≡ IsFinished → IsPresent (state_of code fuel inputs c r)) (λ e. absurd (grind (arith, e))) (λ c e. absurd (grind (arith, e)))
      (λ c r s' k e. is-present code s.is_valid fuel inputs c r k.trace k.of (k.honest e) s') (λ c r k e. absurd (grind (arith, e)))

  heap-there : is_some (heap_in (running_in run)) ≡ has_run (phase_of run)
  heap-there = by (λ r c. is_some (heap_in (running_in r)) ≡ has_run (phase_of r)) refl (λ c. refl) (λ c r s k. sym (some-run s)) (λ c r k. refl)

  idle : phase_of run ≡ IsFinished → queued_kept (running_in run) ≡ 0
  idle = by (λ r c. phase_of r ≡ IsFinished → queued_kept (running_in r) ≡ 0) (λ e. refl) (λ c e. refl) (λ c r s k e. ap (λ (q : List ℕ). length q) (k.idle e)) (λ c r k e. absurd (grind (arith, e)))

  none-left : phase_of run ≡ Dropped → (n : ℕ) → core (state_of code fuel inputs kept.call run).memory n ≡ None
  none-left = by (λ r c. phase_of r ≡ Dropped → (n : ℕ) → core (state_of code fuel inputs c r).memory n ≡ None) (λ e n. refl) (λ c e n. refl)
      (λ c r s k e. let w = k.whole in absurd (grind (arith, rw e at w))) (λ c r k e. absurd (grind (arith, e)))

  -- without a run nothing is marked
  unmarked : has_run (phase_of run) ≡ false → marked_kept (running_in run) ≡ None
  unmarked = by (λ r c. has_run (phase_of r) ≡ false → marked_kept (running_in r) ≡ None) (λ e. refl) (λ c e. refl)
      (λ c r s k e. absurd (false≢true (sym e ∙ some-run s))) (λ c r k e. absurd (false≢true (sym e)))

  pub sound-engine : IsEngine (state_of code fuel inputs kept.call run)
  sound-engine = record {
    valid = s.is_valid;
    fuel = s.limits;
    inputs = s.fit;
    call = s.calls;
    uncalled = uncalled;
    new = new;
    kept = is-kept;
    flat_form = flat-form;
    nodes = nodes-are;
    tidy = tidy;
    replays = replays;
    held = held;
    numbers = numbers;
    few_numbers = few-numbers;
    traced = traced;
    present = sound-present;
    idle = idle;
    none_left = none-left;
    heap_there = heap-there;
    unmarked = unmarked;
  }
