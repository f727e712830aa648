-- An engine with one input more.
use Rattle.std.proofs.Common.{◌≡◌, ℕ, ◌+◌, ◌<◌, ◌^◌, inl, inr, true, Option, Some, None, List, [], ◌∷◌, ◌++◌, length, refl, sym, ap, ◌∙◌, subst, arith}
use Rattle.std.proofs.lemmas.Bool.Decides.{eqb_tells}
use Rattle.std.specs.Prelude.{IfSome}
use Rattle.ceal_base.specs.Block.{Block, alone}
use Rattle.ceal_base.specs.Fitting.{block_fits, inputs_fit}
use Rattle.ceal_base.specs.Operators.{same_place}
use Rattle.ceal_base.specs.Trace.{Trace}
use Rattle.ceal_base.specs.declared.call.Call.{Call}
use Rattle.ceal_base.specs.declared.word.BlockId.TheVariants.{Input, Core}
use Rattle.ceal_base.specs.declared.word.Place.{Place}
use Rattle.ceal_base.specs.declared.word.Word.{Word}
use Rattle.ceal_code.proofs.Replay.MemoryChanges.{get-push, get-push_other, get-before}
use Rattle.ceal_code.proofs.Words.SameIsEqual.{block-refl, place-same}
use Rattle.ceal_code.specs.Program.{Code}
use Rattle.ceal_code.specs.Replay.{bases, content_in}
use Rattle.ceal_engine.proofs.Inputs.{kept-longer, longer-fits, call-kept, extended-longer}
use Rattle.ceal_engine.proofs.Keeping.{kept-on, part-kept-on}
use Rattle.ceal_engine.proofs.MoreMemory.{get-out}
use Rattle.ceal_engine.specs.Keeping.{Kept, KeepsRun, Keeps, EngineInvariant, running_in}
use Rattle.ceal_engine.specs.Runs.{SetsInput, OfRuns, same_stage}
use Rattle.ceal_engine.specs.declared.run.Run.{Run}
use Rattle.ceal_engine.specs.declared.run.Run.TheVariants as its
use Rattle.ceal_engine.specs.declared.run.Stage.{Stage}
use Rattle.ceal_engine.specs.declared.run.Stage.TheVariants as stage
use Rattle.ceal_mods.specs.Mods.{cell_of}
use Rattle.ceal_order.specs.Stamps.{is_in}
use Rattle.ceal_repair.proofs.Lists.PartedLists.{where-holds}
use Rattle.ceal_repair.specs.Answers.{IsKeptRun}
use Rattle.ceal_repair.specs.Blocks.{HasBlocks}
use Rattle.ceal_repair.specs.Kept.{Kept as KeptTables, Records}
use Rattle.ceal_repair.specs.Lists.{reads_at}
use Rattle.ceal_repair.specs.Words.{HasBases, default_by_standing}
use Rattle.ceal_repair.specs.declared.running.Running.{Running}
use Rattle.ceal_heap.specs.Heap.{standing}
use Rattle.ceal_theory.proofs.Store.MoreInputs.{inputs-law}
use Rattle.ceal_theory.specs.MoreInputs.{SameBases}
use Rattle.ceal_trace.specs.Nodes.{node_at}
use Rattle.ceal_trace.specs.declared.node.Node.{Node}
use Rattle.ceal_trace.specs.declared.node.Node.TheVariants.{Root, Alloc, Write, Read, End}

module _ (code : Code) (fuel : ℕ) (inputs : List Block) where
  abbrev at : ℕ → Place
  at field = record { block = Input (length inputs); field = field }

  -- no node reads the next input
  read-node : (p : Place) (node : Node) (s : ℕ) (o : Option Node) → o ≡ Some node → reads_at p node ≡ true → (q : Place) × (v : Word) × Records q v o × (same_place q p ≡ true)
  read-node p Root s o e h = absurd (grind (arith, h))
  read-node p (Alloc b key) s o e h = absurd (grind (arith, h))
  read-node p (Write q v) s o e h = absurd (grind (arith, h))
  read-node p (Read q v u x args) s o e h = (q, v, record { unit = u; var = x; args = args; is = e }, h)
  read-node p (End r) s o e h = absurd (grind (arith, h))

  none-reads : (run : Running) (kept : KeptTables run.tables) (blocks : HasBlocks code inputs run.heap run.tables) (field : ℕ)
      → (cell_of run.tables.mods (record { block = Input (length inputs); field = field })).reads ≡ []
  none-reads run kept blocks field = go (cell_of run.tables.mods (at field)).reads (λ s i. no s i)
    where
      no : (s : ℕ) → is_in s (cell_of run.tables.mods (at field)).reads ≡ true → ⊥
      no s i =
          let w = where-holds (reads_at (at field)) run.tables.trace.nodes s kept.step.whole.order.distinct (subst (λ rs. is_in s rs ≡ true) (kept.step.tabled.reads (at field)) i) in
          let r = read-node (at field) w.0 s (node_at s run.tables.trace.nodes) w.1 w.2 in
          let there = blocks.reads s r.0 r.1 r.2 in
          let early : length inputs < length inputs = subst (λ (b : Rattle.ceal_base.specs.declared.word.BlockId.BlockId). Rattle.ceal_repair.specs.Blocks.There (length inputs) run.heap b)
          (ap (λ (q : Place). q.block) (place-same r.0 (at field) r.3)) there in
          absurd (omega (arith, early))

      go : (xs : List ℕ) → ((s : ℕ) → is_in s xs ≡ true → ⊥) → xs ≡ []
      go [] h = refl
      go (x ∷ xs) h = absurd (h x (elim (eqb_tells x x) [ inl p ↦ rw p.0 refl | inr p ↦ absurd (p.1 refl) ]))

  pub run-unread : (call : Option Call) (run : Run) → Keeps code fuel inputs run call
      → IfSome (running_in run) (λ r. (field : ℕ) → (cell_of r.tables.mods (record { block = Input (length inputs); field = field })).reads ≡ [])
  run-unread call its.New k = tt
  run-unread None (its.Kept run g) k = elim k [ ]
  run-unread (Some call) (its.Kept run stage.Finished) k = none-reads run k.of.stands.kept k.of.stands.blocks
  run-unread (Some call) (its.Kept run stage.Pending) k = none-reads run k.1.stands.kept k.1.stands.blocks
  run-unread (Some call) (its.Kept run stage.Partial) k = none-reads run k.of.stands.kept k.of.stands.blocks
  run-unread call its.Dropped k = tt

  module _ (b : Block) (fits : block_fits code.structs (alone inputs) b ≡ true) (fit : inputs_fit code.structs inputs ≡ true) where
    new-fits : inputs_fit code.structs (inputs ++ b ∷ []) ≡ true
    new-fits = longer-fits code.structs inputs b fit fits

    pub longer : length (inputs ++ b ∷ []) ≡ length inputs + 1
    longer = go inputs
      where
        go : (xs : List Block) → length (xs ++ b ∷ []) ≡ length xs + 1
        go [] = omega arith
        go (x ∷ xs) = omega (arith, go xs)

    same-bases : SameBases code inputs (inputs ++ b ∷ [])
    unfolding bases
    same-bases i field h = ap (λ o. content_in code.structs o field) (sym (get-before inputs (b ∷ []) i h))

    -- the tables have the bases of the longer inputs
    bases-more : (old run : Running) → SetsInput code.structs (length inputs) b.shape b.words old run → HasBases code.structs inputs old.heap old.tables.mods
        → HasBases code.structs (inputs ++ b ∷ []) run.heap run.tables.mods
    bases-more old run s has = record {
      of_cores = λ c f. s.others (record { block = Core c; field = f }) refl ∙ (has.of_cores c f ∙ ap (λ h. default_by_standing code.structs (standing h (Core c)) f) (sym s.same.heap));
      of_inputs = λ i f. elim (eqb_tells i (length inputs)) [
        | inl p ↦ rw (p.1, get-push inputs b)
            (s.here (at f) (block-refl (Input (length inputs))) ∙ rw (has.of_inputs (length inputs) f ∙ ap (λ o. content_in code.structs o f) (get-out inputs (length inputs) (omega arith))) refl)
        | inr p ↦ s.others (record { block = Input i; field = f }) p.0 ∙ (has.of_inputs i f ∙ ap (λ o. content_in code.structs o f) (sym (get-push_other inputs b i p.0)))
      ];
    }

    abbrev more : List Block
    more = inputs ++ b ∷ []

    on-longer : (call : Call) (old run : Running) → SetsInput code.structs (length inputs) b.shape b.words old run → (l : Trace) → IsKeptRun code inputs call.function call.args fuel l old
        → IsKeptRun code more call.function call.args fuel l run
    on-longer call old run o l k =
        kept-on code inputs more call.function call.args fuel l old run k (extended-longer code inputs b) new-fits (omega (arith, longer)) o.same (bases-more old run o k.stands.blocks.bases)

    run-longer : (call : Call) (old run : Running) → SetsInput code.structs (length inputs) b.shape b.words old run → (g : Stage) → KeepsRun code fuel inputs call old g
        → KeepsRun code fuel more call run g
    run-longer call old run o stage.Finished k =
        let on = inputs-law code inputs more call.function call.args k.of.fits new-fits (extended-longer code inputs b) k.trace k.of.replays in
        record { trace = k.trace; of = on-longer call old run o k.trace k.of; honest = on.honest same-bases k.honest; idle = o.looks.queue ∙ k.idle }
    run-longer call old run o stage.Pending k = (k.0, on-longer call old run o k.0 k.1)
    run-longer call old run o stage.Partial k = part-kept-on code fuel inputs more call old run k (extended-longer code inputs b) new-fits (omega (arith, longer)) o.same (bases-more old run o)

    keeps-longer : (call : Option Call) (old run : Run) → OfRuns (SetsInput code.structs (length inputs) b.shape b.words) same_stage old run → Keeps code fuel inputs old call
        → Keeps code fuel more run call
    keeps-longer call its.New run o k = subst (λ r. Keeps code fuel more r call) (sym o) k
    keeps-longer call (its.Kept old g) its.New o k = elim o [ ]
    keeps-longer None (its.Kept old g) (its.Kept run t) o k = elim k [ ]
    keeps-longer (Some call) (its.Kept old g) (its.Kept run t) o k = subst (KeepsRun code fuel more call run) (sym o.1) (run-longer call old run o.0 g k)
    keeps-longer call (its.Kept old g) its.Dropped o k = elim o [ ]
    keeps-longer call its.Dropped run o k = subst (λ r. Keeps code fuel more r call) (sym o) k

    pub sound-longer : (kept : Kept) (old run : Run) → OfRuns (SetsInput code.structs (length inputs) b.shape b.words) same_stage old run → length inputs + 1 < 2 ^ 32
        → EngineInvariant code fuel inputs kept old → EngineInvariant code fuel (inputs ++ b ∷ []) kept run
    sound-longer kept old run o room s = record {
      is_valid = s.is_valid;
      limits = s.limits;
      fit = new-fits;
      count = omega (arith, longer, room);
      calls = call-kept code inputs (inputs ++ b ∷ []) (kept-longer code.structs inputs b) new-fits kept.call s.calls;
      room = s.room;
      keeps = keeps-longer kept.call old run o s.keeps;
    }
