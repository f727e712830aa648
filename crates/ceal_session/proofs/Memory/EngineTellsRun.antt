-- The source's run as an engine describes it.
use Rattle.std.proofs.Common.{◌≡◌, ℕ, ◌<◌, Bool, true, Option, Some, None, List, length, is_some, refl, sym, ap, ◌∙◌, subst, arith}
use Rattle.std.specs.Prelude.{IsSome, IsTrue}
use Rattle.ceal_base.specs.Access.{word_in, content_of}
use Rattle.ceal_base.specs.Block.{Blocks, block_at}
use Rattle.ceal_base.specs.Finished.{Finished}
use Rattle.ceal_base.specs.Fitting.{memory_fits}
use Rattle.ceal_base.specs.Same.{renamed_id, renamed_word}
use Rattle.ceal_base.specs.Trace.{Trace}
use Rattle.ceal_base.specs.declared.typed.StructInfo.{StructInfo}
use Rattle.ceal_base.specs.declared.typed.Typed.{Typed}
use Rattle.ceal_base.specs.declared.word.BlockId.{BlockId}
use Rattle.ceal_base.specs.declared.word.BlockId.TheVariants.{Input, Core}
use Rattle.ceal_base.specs.declared.word.Place.{Place}
use Rattle.ceal_base.specs.declared.word.Word.{Word}
use Rattle.ceal_base.specs.declared.word.Word.TheVariants.{Num, Null, Block as BlockWord, At}
use Rattle.ceal_code.proofs.Replay.MemoryChanges.{got}
use Rattle.ceal_code.specs.Laws.{ProgressLaw}
use Rattle.ceal_engine.specs.Engine.{EngineState, IsEngine, is_whole, has_run, stored_at, trace}
use Rattle.ceal_engine.specs.declared.phase.Phase.TheVariants.{Finished as IsFinished}
use Rattle.ceal_session.proofs.Engine.ProgramAndCode.{same-structs}
use Rattle.ceal_session.proofs.Memory.SeenBlocks.{seen-is, seen-same, input-count}
use Rattle.ceal_session.proofs.Engine.EngineKeepsPast.{past-traced}
use Rattle.ceal_session.proofs.Engine.EngineRunIsSource.{HasRun, has-run, ready-finished}
use Rattle.ceal_session.proofs.Memory.BlocksUpToNumbers.{content-renamed, renaming, there-back, whole-store}
use Rattle.ceal_session.specs.Questions.{IsReady, IsCellOf, steps_in, blocks_in, content_text}
use Rattle.ceal_session.specs.Journal.{JournalState}
use Rattle.ceal_session.specs.SessionState.{IsMeasured, bound_from, settled_of, state_of, situation_of, SessionInvariant}
use Rattle.ceal_session.specs.Runs.{present_run}
use Rattle.ceal_session.specs.Shown.{shown_blocks, label}
use Rattle.ceal_session.specs.State.{State, Numbers, trace_in_past, latest_work, numbers_in}
use Rattle.ceal_session.specs.Texts.{block_text, value_text, TellsOf}
use Rattle.ceal_session.specs.Values.{number_of_word, number_after}
use Rattle.ceal_session.specs.declared.reply.Query.TheVariants.{Show, Work, Bound}
use Rattle.std.specs.Fmt.{decimal}
use Rattle.std.specs.Prelude.{◌++◌, codes}
use Rattle.ceal_show.specs.Graph.{IsGraphText}
use Rattle.ceal_show.specs.Renaming.{IsRenaming}
use Rattle.ceal_show.specs.Shown.{Shown, IsWhole}

-- the law that a memory whose words fit is whole
abbrev pub FittingLaw : Type 0
FittingLaw = (structs : List StructInfo) (m : Blocks) → IsTrue (memory_fits structs m) → IsWhole structs (block_at m)

-- the law that a graph text says nothing of the numbers of core blocks
abbrev pub TextLaw : Type 0
TextLaw = (structs : List StructInfo) (name : ℕ → List ℕ) (rename : BlockId → BlockId) (from to : Shown) (root : BlockId) (text : List ℕ)
    → IsRenaming rename from to → IsWhole structs from → IsSome (from root)
    → IsGraphText structs from name root text → IsGraphText structs to name (rename root) text

-- the answers about the numbers of a run that is there
pub told-number : (s : State) (numbers : Numbers) (o : Option Finished) → is_some o ≡ true → (text : List ℕ) → text ≡ decimal numbers.work ++ codes "\n" → TellsOf s numbers Work o text
told-number s numbers None i text e = absurd (grind (arith, i))
told-number s numbers (Some f) i text e = e

pub told-bound : (s : State) (numbers : Numbers) (o : Option Finished) → is_some o ≡ true → (text : List ℕ) → text ≡ decimal numbers.bound ++ codes "\n" → TellsOf s numbers Bound o text
told-bound s numbers None i text e = absurd (grind (arith, i))
told-bound s numbers (Some f) i text e = e

same-name : (s : State) (bs : List ℕ) (b : BlockId) → block_text s (renamed_id bs b) ≡ block_text s b
same-name s bs (Input n) = refl
same-name s bs (Core n) = refl

same-value : (s : State) (bs : List ℕ) (w : Word) → value_text s (renamed_word bs w) ≡ value_text s w
same-value s bs (Num n) = refl
same-value s bs Null = refl
same-value s bs (BlockWord b) = same-name s bs b
same-value s bs (At p) = same-name s bs p.block

same-number : (bs : List ℕ) (w : Word) → number_of_word (renamed_word bs w) ≡ number_of_word w
same-number bs (Num n) = refl
same-number bs Null = refl
same-number bs (BlockWord b) = refl
same-number bs (At p) = refl

pub whole-engine : (e : EngineState) → IsEngine e → e.phase ≡ IsFinished → FittingLaw → IsWhole e.code.structs (stored_at e.memory)
whole-engine e k fin fitting = let g = k.present fin in whole-store e g.run g.is e.code.structs (fitting e.code.structs g.run.memory g.is.fits)

module _ (p : Typed) (names : List (List ℕ)) (e : EngineState) (j : JournalState) (pending : Bool) (h : SessionInvariant p names e j pending) (k : IsEngine e)
    (ready : IsReady (state_of p names e j pending)) where
  abbrev state : State
  state = state_of p names e j pending

  abbrev has : HasRun p names e j pending h k
  has = has-run p names e j pending h k ready

  pub told-blocks : (n : ℕ) → n ≡ e.live → blocks_in (present_run state) ≡ Some n
  told-blocks n i = ap blocks_in has.fresh ∙ ap Some (sym has.is.live ∙ sym i)

  pub told-steps : (n : ℕ) → n ≡ e.steps → steps_in (present_run state) ≡ Some n
  told-steps n i = ap steps_in has.fresh ∙ ap Some (sym has.is.steps ∙ sym i)

  pub told-run : is_some (present_run state) ≡ true
  told-run = ap is_some has.fresh

  finished : e.phase ≡ IsFinished
  finished = ready-finished p names e j pending h k ready

  -- the work is that of the trace
  pub told-work : (n : ℕ) → n ≡ e.work → n ≡ (numbers_in (situation_of p names e j pending)).work
  told-work n i = go (trace e) refl (k.kept ∙ ap has_run finished)
    where
      go : (o : Option Trace) → trace e ≡ o → is_some o ≡ true → n ≡ (numbers_in (situation_of p names e j pending)).work
      go None t s = absurd (grind (arith, s))
      go (Some l) t s = i ∙ ap (λ q. latest_work (trace_in_past q)) (sym (past-traced e l (ap is_whole finished) t))

  -- nothing was edited since, so that the present inputs are the settled ones
  pub now-settled : settled_of e j ≡ e.inputs
  now-settled = rw (h.present finished) refl

  pub now-measured : IsMeasured e e.inputs j.measure
  now-measured = subst (λ xs. IsMeasured e xs j.measure) now-settled h.measured

  pub told-cost : (n : ℕ) → n ≡ bound_from e e.inputs j.measure → n ≡ (situation_of p names e j pending).bound
  told-cost n i = i ∙ ap (λ xs. bound_from e xs j.measure) (sym now-settled)

  content-at : (b : BlockId) (field : ℕ) → IsCellOf state (record { block = b; field = field })
      → value_text state (content_of has.run.memory (At (record { block = b; field = field })) Null) ≡ value_text state (word_in (stored_at e.memory b) field Null)
  content-at (Input n) field cell =
      ap (value_text state) (content-renamed e has.run has.is n field) ∙ same-value state has.is.numbers (word_in (stored_at e.memory (Input n)) field Null)
  content-at (Core n) field cell = absurd (grind (arith, cell))

  pub told-content : (place : Place) (w : Word) → IsCellOf state place → w ≡ word_in (stored_at e.memory place.block) place.field Null
      → content_text state place (present_run state) ≡ Some (value_text state w)
  told-content place w cell i = ap (content_text state place) has.fresh ∙ ap Some (content-at place.block place.field cell ∙ ap (value_text state) (sym i))

  number-at : (b : BlockId) (field : ℕ) → IsCellOf state (record { block = b; field = field })
      → number_of_word (content_of has.run.memory (At (record { block = b; field = field })) Null) ≡ number_of_word (word_in (stored_at e.memory b) field Null)
  number-at (Input n) field cell =
      ap number_of_word (content-renamed e has.run has.is n field) ∙ same-number has.is.numbers (word_in (stored_at e.memory (Input n)) field Null)
  number-at (Core n) field cell = absurd (grind (arith, cell))

  pub told-value : (place : Place) (w : Word) → IsCellOf state place → w ≡ word_in (stored_at e.memory place.block) place.field Null
      → number_of_word w ≡ number_after place (present_run state)
  told-value place w cell i = ap number_of_word i ∙ (sym (number-at place.block place.field cell) ∙ ap (number_after place) (sym has.fresh))

  pub whole-seen : FittingLaw → IsWhole e.code.structs (shown_blocks e)
  whole-seen fitting = subst (IsWhole e.code.structs) (sym (seen-same e finished)) (whole-engine e k finished fitting)

  pub root-seen : ProgressLaw → (n : ℕ) → n < length e.inputs → IsSome (shown_blocks e (Input n))
  root-seen law n l =
      let g = k.present finished in
      let c : length g.run.memory.inputs ≡ length e.inputs = input-count e k law finished in
      let b = got g.run.memory.inputs n (subst (λ k. n < k) (sym c) l) in
      subst IsSome (sym (seen-is e (Input n) finished)) (there-back e g.run g.is (Input n) (ap is_some b.1))

  pub told-graph : ProgressLaw → FittingLaw → TextLaw → (n : ℕ) → n < length e.inputs → (numbers : Numbers) (text : List ℕ)
      → IsGraphText e.code.structs (shown_blocks e) (label names) (Input n) text → TellsOf state numbers (Show n) (present_run state) text
  told-graph law fitting same n l numbers text t =
      let g = has in
      let there : IsSome (stored_at e.memory (Input n)) = subst IsSome (seen-is e (Input n) finished) (root-seen law n l) in
      let t' : IsGraphText e.code.structs (stored_at e.memory) (label names) (Input n) text = subst (λ m. IsGraphText e.code.structs m (label names) (Input n) text) (seen-same e finished) t in
      let r : IsGraphText e.code.structs (block_at g.run.memory) (label names) (Input n) text =
      same e.code.structs (label names) (renamed_id g.is.numbers) (stored_at e.memory) (block_at g.run.memory) (Input n) text (renaming e g.run g.is) (whole-engine e k finished fitting) there t' in
      let s : IsGraphText p.structs (block_at g.run.memory) (label names) (Input n) text =
      subst (λ structs. IsGraphText structs (block_at g.run.memory) (label names) (Input n) text) (same-structs p e.code h.compiled.code) r in
      rw g.fresh s
