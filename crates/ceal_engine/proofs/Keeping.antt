-- What an engine keeps stays sound.
use Rattle.std.proofs.Common.{◌≡◌, ℕ, zero, suc, if◌then◌else◌, ◌≤◌, ◌+◌, ◌*◌, ◌&&◌, true, false, Option, Some, None, List, [], ◌∷◌, length, slice_get, refl, sym, ap, ◌∙◌, subst, arith}
use Rattle.std.specs.Option.{option_map}
use Rattle.std.specs.Prelude.{IfSome, is_some, Result, Ok, Err, OnErr}
use Rattle.std.proofs.Math.Path.{fun_ext}
use Rattle.ceal_base.specs.Block.{Block, block_at, alone}
use Rattle.ceal_base.specs.Fitting.{kind_in, kind_at, block_fits, fields_fit, fits_field, inputs_fit}
use Rattle.ceal_base.specs.Operators.{same_place}
use Rattle.ceal_base.specs.Shapes.{kinds_of_shape}
use Rattle.ceal_base.specs.Trace.{Trace}
use Rattle.ceal_base.specs.declared.call.Call.{Call}
use Rattle.ceal_base.specs.declared.kind.FieldKind.{FieldKind}
use Rattle.ceal_base.specs.declared.typed.StructInfo.{StructInfo}
use Rattle.ceal_base.specs.declared.word.BlockId.{BlockId}
use Rattle.ceal_base.specs.declared.word.BlockId.TheVariants.{Input, Core}
use Rattle.ceal_base.specs.declared.word.Place.{Place}
use Rattle.ceal_base.specs.declared.word.Word.{Word}
use Rattle.ceal_code.proofs.Replay.MemoryChanges.{CellThere, contents, written-contents}
use Rattle.ceal_code.proofs.Words.SameIsEqual.{both, some-same, none-some}
use Rattle.ceal_code.specs.Fitting.{Fits}
use Rattle.ceal_code.specs.Program.{Code}
use Rattle.ceal_code.specs.Replay.{stored}
use Rattle.ceal_code.specs.Value.{is_cell}
use Rattle.ceal_engine.proofs.Inputs.{all-get, fit-all, edit-fits, call-kept, extended-edit, extended-refl}
use Rattle.ceal_engine.proofs.MoreMemory.{core-plain}
use Rattle.ceal_engine.proofs.Repairs.{first-of}
use Rattle.ceal_engine.specs.Engine.{fits_in, with_base, has_run}
use Rattle.ceal_engine.specs.Keeping.{contents as cell_contents, Kept, state_of, phase_of, running_in, IsPartKept, KeepsRun, Keeps, EngineInvariant, marked_kept}
use Rattle.ceal_engine.specs.Runs.{IsFirstOf, SameRun, SetsBase, LeavesCells, OfRuns, edited_at, same_stage}
use Rattle.ceal_engine.specs.declared.run.Run.{Run}
use Rattle.ceal_engine.specs.declared.run.Run.TheVariants as its
use Rattle.ceal_engine.specs.declared.run.Stage.{Stage}
use Rattle.ceal_engine.specs.declared.run.Stage.TheVariants as stage
use Rattle.ceal_heap.specs.Heap.{Contents, next, standing, plain_of as heap_words}
use Rattle.ceal_mods.specs.Cell.{latest_value}
use Rattle.ceal_mods.specs.declared.cell.Cell.{Cell}
use Rattle.ceal_repair.specs.Answers.{StandsForTrace, IsKeptRun, IsFirst as IsFirstAnswer}
use Rattle.ceal_repair.specs.Blocks.{There, HasFew}
use Rattle.ceal_repair.specs.Kept.{Kept as KeptTables}
use Rattle.ceal_repair.specs.Slicing.{IsPartRun}
use Rattle.ceal_repair.specs.Words.{HasBases, default_by_standing}
use Rattle.ceal_repair.specs.declared.running.Outcome.{Outcome}
use Rattle.ceal_repair.specs.declared.running.Outcome.TheVariants.{Done}
use Rattle.ceal_repair.specs.declared.running.Running.{Running}
use Rattle.ceal_theory.proofs.SlicedRepair.CarriedLaws.{carried-more-law}
use Rattle.ceal_theory.proofs.Store.FittingInputs.{fits-more}
use Rattle.ceal_theory.proofs.Store.MoreInputs.{inputs-law}
use Rattle.ceal_theory.proofs.SlicedRepair.SliceLaws.{more-law}
use Rattle.ceal_theory.specs.Adjust.{Extended}
use Rattle.ceal_theory.specs.MoreInputs.{OnMore}
use Rattle.ceal_theory.specs.Repair.{own}
use Rattle.ceal_theory.specs.Slices.{Repair}
use Rattle.ceal_trace.specs.Items.{forest_of, Nests}
use Rattle.ceal_trace.specs.Nodes.{Timeline}

-- ---- a run on other inputs

there-on : (n m : ℕ) (heap : Contents) (b : BlockId) → n ≤ m → There n heap b → There m heap b
there-on n m heap (Input i) h k = omega (arith, h, k)
there-on n m heap (Core b) h k = k

-- A run of a call is one on inputs that extend its own, where its tables have the bases of these.
pub kept-on : (code : Code) (inputs more : List Block) (f : ℕ) (args : List Word) (fuel : ℕ) (l : Trace) (old run : Running) → IsKeptRun code inputs f args fuel l old
    → Extended code inputs more → inputs_fit code.structs more ≡ true → length inputs ≤ length more → SameRun old run → HasBases code.structs more run.heap run.tables.mods
    → IsKeptRun code more f args fuel l run
kept-on code inputs more f args fuel l old run k extended fit long same has = record {
  stands = record {
    kept = same.kept;
    nests = subst (λ (t : Timeline). Nests t.nodes) (sym same.trace) s.nests;
    items = ap (λ (t : Timeline). forest_of t.nodes) same.trace ∙ s.items;
    words = λ b. ap (λ h. heap_words h (Core b)) same.heap ∙ (s.words b ∙ sym (core-plain code inputs more f args k.fits extended l k.replays b));
    released = λ b block e. s.released b block (rw same.heap at e);
    slots = rw same.heap s.slots;
    blocks = record {
      bases = has;
      lives = rw (same.heap, same.trace) s.blocks.lives;
      reads = rw (same.heap, same.trace) (λ s' p v r. there-on (length inputs) (length more) old.heap p.block long (s.blocks.reads s' p v r));
    };
  };
  fits = on.call;
  replays = on.replays;
  few = k.few;
  numbers = subst (λ h. next h ≤ 2 * fuel) (sym same.heap) k.numbers;
}
  where
    s : StandsForTrace code inputs l old
    s = k.stands

    on : OnMore code inputs more f args l
    on = inputs-law code inputs more f args k.fits fit extended l k.replays

-- A run of a repair in progress is one on inputs that extend its own, where its tables have the bases of these.
part-on : (code : Code) (inputs more : List Block) (f : ℕ) (args : List Word) (fuel : ℕ) (q : Repair) (old run : Running) → IsPartRun code inputs f args fuel q old
    → Extended code inputs more → inputs_fit code.structs more ≡ true → length inputs ≤ length more → SameRun old run → HasBases code.structs more run.heap run.tables.mods
    → IsPartRun code more f args fuel q run
part-on code inputs more f args fuel q old run k extended fit long same has = record {
  fits = fits-more code inputs more extended f args k.fits fit;
  stands = record {
    kept = same.kept;
    nests = subst (λ (t : Timeline). Nests t.nodes) (sym same.trace) k.stands.nests;
    items = ap (λ (t : Timeline). forest_of t.nodes) same.trace ∙ k.stands.items;
    known = λ b. k.stands.known b ∙ ap (λ h. heap_words h (Core b)) (sym same.heap);
    blocks = record {
      bases = has;
      lives = rw (same.heap, same.trace) k.stands.blocks.lives;
      reads = rw (same.heap, same.trace) (λ s' p v r. there-on (length inputs) (length more) old.heap p.block long (k.stands.blocks.reads s' p v r));
    };
    spent = k.stands.spent ∙ sym same.spent;
    names = k.stands.names;
    sound = more-law code k.stands.names inputs more f args k.fits fit extended q k.stands.sound;
  };
  few = subst (λ n. n ≤ fuel) (sym same.spent) k.few;
  blocks = subst (λ n. HasFew (fuel + n) run.heap) (sym same.spent) (subst (λ h. HasFew (fuel + old.spent) h) (sym same.heap) k.blocks);
  numbers = subst (λ h. next h ≤ 2 * fuel) (sym same.heap) k.numbers;
}

-- and so it is where it is kept
pub part-kept-on : (code : Code) (fuel : ℕ) (inputs more : List Block) (call : Call) (old run : Running) → IsPartKept code fuel inputs call old
    → Extended code inputs more → inputs_fit code.structs more ≡ true → length inputs ≤ length more → SameRun old run
    → (HasBases code.structs inputs old.heap old.tables.mods → HasBases code.structs more run.heap run.tables.mods)
    → IsPartKept code fuel more call run
part-kept-on code fuel inputs more call old run k extended fit long same has = record {
  repair = k.repair;
  of = part-on code inputs more call.function call.args fuel k.repair old run k.of extended fit long same (has k.of.stands.blocks.bases);
  next = k.next;
  ordered = k.ordered;
  sound = more-law code own inputs more call.function call.args k.of.fits fit extended k.ordered k.sound;
  carried = carried-more-law code inputs more fit extended k.next k.ordered k.repair k.carried;
}

-- ---- an edit

-- the place of an input's modifiable has a content
module _ (code : Code) (inputs : List Block) (p : Place) (w : Word) (fit : inputs_fit code.structs inputs ≡ true)
    (t : (is_cell (kind_at code.structs (alone inputs) p) && fits_in code.structs (alone inputs) (kind_at code.structs (alone inputs) p) w) ≡ true) where
  word-there : (kinds : List FieldKind) (words : List Word) (n : ℕ) → fields_fit code.structs (alone inputs) kinds words ≡ true → is_cell (slice_get kinds n) ≡ true
      → (v : Word) × (slice_get words n ≡ Some v)
  word-there [] words n h e = absurd (grind (arith, e))
  word-there (kind ∷ kinds) [] n h e = absurd (grind (arith, h))
  word-there (kind ∷ kinds) (v ∷ words) zero h e = (v, refl)
  word-there (kind ∷ kinds) (v ∷ words) (suc n) h e =
      word-there kinds words n (both (fits_field code.structs (alone inputs) kind v) (fields_fit code.structs (alone inputs) kinds words) h).1 e

  cell-at : is_cell (kind_at code.structs (alone inputs) p) ≡ true
  cell-at = (both (is_cell (kind_at code.structs (alone inputs) p)) (fits_in code.structs (alone inputs) (kind_at code.structs (alone inputs) p) w) t).0

  cell-there : CellThere code.structs (alone inputs) p
  cell-there = go p.block refl
    where
      of : (o : Option Block) → block_at (alone inputs) p.block ≡ o
          → ((block : Block) → o ≡ Some block → fields_fit code.structs (alone inputs) (kinds_of_shape code.structs block.shape) block.words ≡ true)
          → is_cell (kind_in code.structs o p.field) ≡ true → CellThere code.structs (alone inputs) p
      of None e h k = absurd (grind (arith, k))
      of (Some block) e h k =
          let v = word-there (kinds_of_shape code.structs block.shape) block.words p.field (h block refl) k in
          record { block = block; there = e; cell = k; word = v.0; holds = v.1 }

      go : (b : BlockId) → p.block ≡ b → CellThere code.structs (alone inputs) p
      go (Input n) e =
          of (block_at (alone inputs) p.block) refl
          (λ block i. all-get (block_fits code.structs (alone inputs)) inputs n block (fit-all code.structs inputs fit) (ap (block_at (alone inputs)) (sym e) ∙ i)) cell-at
      go (Core c) e = let none : is_cell (kind_in code.structs None p.field) ≡ true =
          ap (λ b. is_cell (kind_in code.structs (block_at (alone inputs) b) p.field)) (sym e) ∙ cell-at in absurd (grind (arith, none))

  -- the place is that of an input
  not-core : (b f : ℕ) → same_place (record { block = Core b; field = f }) p ≡ false
  not-core b f = go p.block refl cell-at
    where
      go : (c : BlockId) → p.block ≡ c → is_cell (kind_in code.structs (block_at (alone inputs) p.block) p.field) ≡ true → same_place (record { block = Core b; field = f }) p ≡ false
      go (Input n) e k = rw e refl
      go (Core c) e k = let none : is_cell (kind_in code.structs None p.field) ≡ true =
          ap (λ b. is_cell (kind_in code.structs (block_at (alone inputs) b) p.field)) (sym e) ∙ k in absurd (grind (arith, none))

  -- the tables have the bases of the inputs with another one
  bases-edited : (old run : Running) → SetsBase p w old run → HasBases code.structs inputs old.heap old.tables.mods → HasBases code.structs (with_base inputs p w) run.heap run.tables.mods
  unfolding stored contents
  bases-edited old run s has = record {
    of_cores = λ b f. s.base (record { block = Core b; field = f }) ∙ (rw (not-core b f) (has.of_cores b f) ∙ ap (λ h. default_by_standing code.structs (standing h (Core b)) f) (sym s.same.heap));
    of_inputs = λ i f.
        s.base (record { block = Input i; field = f })
        ∙ (ap (λ x. if same_place (record { block = Input i; field = f }) p then w else x) (has.of_inputs i f)
        ∙ sym (written-contents code (alone inputs) p cell-there w (record { block = Input i; field = f }) ∙ refl));
  }

  module _ (fuel : ℕ) (fits : inputs_fit code.structs (with_base inputs p w) ≡ true) (long : length (with_base inputs p w) ≡ length inputs) where
    on-edited : (call : Call) (old run : Running) → SetsBase p w old run → (l : Trace) → IsKeptRun code inputs call.function call.args fuel l old
        → IsKeptRun code (with_base inputs p w) call.function call.args fuel l run
    on-edited call old run o l k =
        kept-on code inputs (with_base inputs p w) call.function call.args fuel l old run k (extended-edit code inputs p w cell-at) fits (omega (arith, long)) o.same
        (bases-edited old run o k.stands.blocks.bases)

    -- a finished run is pending then
    run-edited : (call : Call) (old run : Running) → SetsBase p w old run → (s : Stage) → KeepsRun code fuel inputs call old s → KeepsRun code fuel (with_base inputs p w) call run (edited_at s)
    run-edited call old run o stage.Finished k = (k.trace, on-edited call old run o k.trace k.of)
    run-edited call old run o stage.Pending k = (k.0, on-edited call old run o k.0 k.1)
    run-edited call old run o stage.Partial k =
        part-kept-on code fuel inputs (with_base inputs p w) call old run k (extended-edit code inputs p w cell-at) fits (omega (arith, long)) o.same (bases-edited old run o)

    keeps-edited : (call : Option Call) (old run : Run) → OfRuns (SetsBase p w) edited_at old run → Keeps code fuel inputs old call → Keeps code fuel (with_base inputs p w) run call
    keeps-edited call its.New run o k = subst (λ r. Keeps code fuel (with_base inputs p w) r call) (sym o) k
    keeps-edited call (its.Kept old s) its.New o k = elim o [ ]
    keeps-edited None (its.Kept old s) (its.Kept run t) o k = elim k [ ]
    keeps-edited (Some call) (its.Kept old s) (its.Kept run t) o k = subst (KeepsRun code fuel (with_base inputs p w) call run) (sym o.1) (run-edited call old run o.0 s k)
    keeps-edited call (its.Kept old s) its.Dropped o k = elim o [ ]
    keeps-edited call its.Dropped run o k = subst (λ r. Keeps code fuel (with_base inputs p w) r call) (sym o) k

  pub sound-edited : (fuel : ℕ) (kept : Kept) (old run : Run) → OfRuns (SetsBase p w) edited_at old run → EngineInvariant code fuel inputs kept old
      → EngineInvariant code fuel (with_base inputs p w) kept run
  sound-edited fuel kept old run o s =
      let k = edit-fits code.structs inputs p w s.fit t in
      record {
        is_valid = s.is_valid;
        limits = s.limits;
        fit = k.fits;
        count = omega (arith, s.count, k.count);
        calls = call-kept code inputs (with_base inputs p w) k.kept k.fits kept.call s.calls;
        room = s.room;
        keeps = keeps-edited fuel k.fits k.count kept.call old run o s.keeps;
      }

-- ---- where nothing is seen to change

bases-left : (structs : List StructInfo) (inputs : List Block) (old run : Running) → LeavesCells old run → HasBases structs inputs old.heap old.tables.mods
    → HasBases structs inputs run.heap run.tables.mods
bases-left structs inputs old run o has = record {
  of_cores = λ b f. ap (λ (c : Cell). c.base) (o.cells (record { block = Core b; field = f })) ∙ (has.of_cores b f ∙ ap (λ h. default_by_standing structs (standing h (Core b)) f) (sym o.same.heap));
  of_inputs = λ i f. ap (λ (c : Cell). c.base) (o.cells (record { block = Input i; field = f })) ∙ has.of_inputs i f;
}

module _ (code : Code) (fuel : ℕ) (inputs : List Block) where
  on-left : (call : Call) (old run : Running) → LeavesCells old run → (l : Trace) → IsKeptRun code inputs call.function call.args fuel l old → IsKeptRun code inputs call.function call.args fuel l run
  on-left call old run o l k =
      kept-on code inputs inputs call.function call.args fuel l old run k (extended-refl code inputs) k.fits.blocks (omega arith) o.same
      (bases-left code.structs inputs old run o k.stands.blocks.bases)

  -- a run whose nodes, heap and cells are as they were
  run-left : (call : Call) (old run : Running) → LeavesCells old run → (s : Stage) → KeepsRun code fuel inputs call old s → KeepsRun code fuel inputs call run s
  run-left call old run o stage.Finished k = record { trace = k.trace; of = on-left call old run o k.trace k.of; honest = k.honest; idle = o.looks.queue ∙ k.idle }
  run-left call old run o stage.Pending k = (k.0, on-left call old run o k.0 k.1)
  run-left call old run o stage.Partial k =
      part-kept-on code fuel inputs inputs call old run k (extended-refl code inputs) k.of.fits.blocks (omega arith) o.same (bases-left code.structs inputs old run o)

  keeps-left : (call : Option Call) (old run : Run) → OfRuns LeavesCells same_stage old run → Keeps code fuel inputs old call → Keeps code fuel inputs run call
  keeps-left call its.New run o k = subst (λ r. Keeps code fuel inputs r call) (sym o) k
  keeps-left call (its.Kept old s) its.New o k = elim o [ ]
  keeps-left None (its.Kept old s) (its.Kept run t) o k = elim k [ ]
  keeps-left (Some call) (its.Kept old s) (its.Kept run t) o k = subst (KeepsRun code fuel inputs call run) (sym o.1) (run-left call old run o.0 s k)
  keeps-left call (its.Kept old s) its.Dropped o k = elim o [ ]
  keeps-left call its.Dropped run o k = subst (λ r. Keeps code fuel inputs r call) (sym o) k

  -- another run is kept, or none
  pub sound-with : (kept : Kept) (old run : Run) → EngineInvariant code fuel inputs kept old → Keeps code fuel inputs run kept.call → EngineInvariant code fuel inputs kept run
  sound-with kept old run s k = record { is_valid = s.is_valid; limits = s.limits; fit = s.fit; count = s.count; calls = s.calls; room = s.room; keeps = k }

  pub sound-left : (kept : Kept) (old run : Run) → OfRuns LeavesCells same_stage old run → EngineInvariant code fuel inputs kept old → EngineInvariant code fuel inputs kept run
  sound-left kept old run o s = sound-with kept old run s (keeps-left kept.call old run o s.keeps)

  pub state-left : (call : Option Call) (old run : Run) → OfRuns LeavesCells same_stage old run → marked_kept (running_in run) ≡ marked_kept (running_in old)
      → state_of code fuel inputs call run ≡ state_of code fuel inputs call old
  state-left call its.New run o marks = ap (state_of code fuel inputs call) o
  state-left call (its.Kept old s) its.New o marks = elim o [ ]
  state-left call (its.Kept old s) (its.Kept run t) o marks =
      let same : cell_contents run.tables.mods ≡ cell_contents old.tables.mods = fun_ext (λ p. ap latest_value (o.0.cells p)) in
      rw (o.1, o.0.same.trace, o.0.same.heap, o.0.same.spent, same, o.0.looks.looked, o.0.looks.differed, o.0.looks.queue, marks) refl
  state-left call (its.Kept old s) its.Dropped o marks = elim o [ ]
  state-left call its.Dropped run o marks = ap (state_of code fuel inputs call) o

  -- the same, where something else is marked
  pub state-marked : (call : Option Call) (old run : Run) → OfRuns LeavesCells same_stage old run
      → state_of code fuel inputs call run ≡ record (state_of code fuel inputs call old) { marked = marked_kept (running_in run) }
  state-marked call its.New run o = rw o refl
  state-marked call (its.Kept old s) its.New o = elim o [ ]
  state-marked call (its.Kept old s) (its.Kept run t) o =
      let same : cell_contents run.tables.mods ≡ cell_contents old.tables.mods = fun_ext (λ p. ap latest_value (o.0.cells p)) in
      rw (o.1, o.0.same.trace, o.0.same.heap, o.0.same.spent, same, o.0.looks.looked, o.0.looks.differed, o.0.looks.queue) refl
  state-marked call (its.Kept old s) its.Dropped o = elim o [ ]
  state-marked call its.Dropped run o = rw o refl

  -- the tables of a run are kept
  pub run-kept : (call : Option Call) (run : Run) → Keeps code fuel inputs run call → IfSome (running_in run) (λ r. KeptTables r.tables)
  run-kept call its.New k = tt
  run-kept None (its.Kept run s) k = elim k [ ]
  run-kept (Some call) (its.Kept run stage.Finished) k = k.of.stands.kept
  run-kept (Some call) (its.Kept run stage.Pending) k = k.1.stands.kept
  run-kept (Some call) (its.Kept run stage.Partial) k = k.of.stands.kept
  run-kept call its.Dropped k = tt

  -- where there is a run there is a call
  called : (call : Option Call) (run : Run) → Keeps code fuel inputs run call → has_run (phase_of run) ≡ true → is_some call ≡ true
  called call its.New k there = absurd (grind (arith, there))
  called None (its.Kept run s) k there = elim k [ ]
  called (Some call) (its.Kept run s) k there = refl
  called call its.Dropped k there = k

  -- a run is given up
  pub sound-dropped : (kept : Kept) (run : Run) → has_run (phase_of run) ≡ true → EngineInvariant code fuel inputs kept run → EngineInvariant code fuel inputs kept its.Dropped
  sound-dropped kept run there s = sound-with kept run its.Dropped s (called kept.call run s.keeps there)

-- what holds anyway holds after an error
pub on-err : {A E : Type 0} (r : Result A E) (P : Type 0) → P → OnErr r P
on-err (Ok x) P p = tt
on-err (Err x) P p = p

-- ---- the first run

module _ (code : Code) (fuel : ℕ) (inputs : List Block) where
  -- the call from its parts
  pub the-call : (call : Option Call) (f : ℕ) (args : List Word) → option_map (λ call. call.function) call ≡ Some f → IfSome call (λ call. call.args ≡ args)
      → call ≡ Some (record { function = f; args = args })
  the-call None f args e h = none-some f e
  the-call (Some call) f args e h = rw (← some-same call.function f e, ← h) refl

  pub first-fits : (call : Option Call) (f : ℕ) (args : List Word) → call ≡ Some (record { function = f; args = args }) → IfSome call (λ call. Fits code inputs call.function call.args)
      → Fits code inputs f args
  first-fits call f args e h = subst (λ o. IfSome o (λ call. Fits code inputs call.function call.args)) e h

  pub first-done : (call : Option Call) (f : ℕ) (args : List Word) → call ≡ Some (record { function = f; args = args }) → IfSome call (λ call. Fits code inputs call.function call.args) → (o : Outcome)
      → IsFirstAnswer code inputs f args fuel o → (run : Running) → o ≡ Done run → IsFirstOf code fuel inputs call run
  first-done call f args e h o a run k =
      subst (λ c. IsFirstOf code fuel inputs c run) (sym e)
      (first-of code fuel inputs (record { function = f; args = args }) (first-fits call f args e h) run (subst (λ o. IsFirstAnswer code inputs f args fuel o) k a))
