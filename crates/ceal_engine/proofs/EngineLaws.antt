-- Which repair an engine carries.
use Rattle.std.proofs.Common.{◌≡◌, ℕ, true, Option, Some, None, List, refl, sym, ap, ◌∙◌, subst}
use Rattle.std.proofs.lemmas.Bool.{false≢true}
use Rattle.std.specs.Prelude.{IfSome, is_some}
use Rattle.ceal_base.specs.Block.{Block}
use Rattle.ceal_base.specs.Fitting.{inputs_fit}
use Rattle.ceal_base.specs.Trace.{Trace}
use Rattle.ceal_base.specs.declared.call.Call.{Call}
use Rattle.ceal_base.specs.declared.kind.Shape.{Shape}
use Rattle.ceal_base.specs.declared.typed.StructInfo.{StructInfo}
use Rattle.ceal_base.specs.declared.word.BlockId.TheVariants.{Core}
use Rattle.ceal_base.specs.declared.word.Place.{Place}
use Rattle.ceal_base.specs.declared.word.Word.{Word}
use Rattle.ceal_code.specs.Fitting.{Fits}
use Rattle.ceal_code.specs.Program.{Code}
use Rattle.ceal_code.specs.Replay.{Replays, plain_of}
use Rattle.ceal_engine.proofs.Inputs.{extended-refl}
use Rattle.ceal_engine.proofs.Present.{sound-engine, whole-run}
use Rattle.ceal_engine.specs.Keeping.{Kept, EngineInvariant as SoundInside, phase_at, state_of}
use Rattle.ceal_engine.specs.Engine.{EngineState, IsWhole, IsHeapOf, ReplaysCall, is_whole, stands_for}
use Rattle.ceal_engine.specs.Partial.{spent_in, words_in, carried_by, CarriesRepair, SameRepair, BeginsLaw, KeptLaw}
use Rattle.ceal_engine.specs.Runs.{OfRuns, SameRun, SetsBase, SetsInput, edited_at, same_stage}
use Rattle.ceal_engine.specs.declared.phase.Phase.{Phase}
use Rattle.ceal_engine.specs.declared.phase.Phase.TheVariants.{New, Finished, Pending, Partial, Dropped}
use Rattle.ceal_engine.specs.declared.run.Run.{Run}
use Rattle.ceal_engine.specs.declared.run.Run.TheVariants as its
use Rattle.ceal_engine.specs.declared.run.Stage.{Stage}
use Rattle.ceal_heap.specs.Heap.{Contents}
use Rattle.ceal_theory.proofs.SlicedRepair.CarriedLaws.{carried-begin-law, carried-more-law, carried-same-law}
use Rattle.ceal_theory.proofs.SlicedRepair.SliceLaws.{begin-law, more-law}
use Rattle.ceal_repair.specs.declared.running.Running.{Running}
use Rattle.ceal_theory.specs.Adjust.{Extended}
use Rattle.ceal_theory.specs.Carried.{Carried}
use Rattle.ceal_theory.specs.Laws.{Edited}
use Rattle.ceal_theory.specs.Repair.{own}
use Rattle.ceal_theory.specs.Slices.{Repair, RepairHolds, beginning}
use Rattle.ceal_trace.specs.Items.{forest_of}
use Rattle.ceal_trace.specs.Nodes.{Timeline}

none-spent : (p : Phase) (work : ℕ) → IsWhole p → spent_in p work ≡ 0
none-spent New work h = refl
none-spent Finished work h = refl
none-spent Pending work h = refl
none-spent Partial work h = absurd (false≢true h)
none-spent Dropped work h = refl

-- the words of the heap are those of the trace
held-words : (e : EngineState) (l : Trace) (h : Option Contents) → IfSome h (IsHeapOf e.code e.inputs l) → is_some h ≡ true → (b : ℕ) → words_in h (Core b) ≡ plain_of e.code e.inputs l (Core b)
held-words e l None t some b = absurd (false≢true some)
held-words e l (Some heap) t some b = t.words b

pub begins-law : BeginsLaw
begins-law e k whole l is number above = go e.call refl
  where
    held : IfSome e.heap (IsHeapOf e.code e.inputs l)
    held = subst (λ o. IfSome o (λ m. IfSome e.heap (IsHeapOf e.code e.inputs m))) is (k.held whole)

    replays : ReplaysCall e l
    replays = subst (λ o. IfSome o (ReplaysCall e)) is (k.replays whole)

    there : is_some e.heap ≡ true
    there = k.heap_there ∙ whole-run e.phase whole

    of : (call : Call) → e.call ≡ Some call → Fits e.code e.inputs call.function call.args → Replays e.code e.inputs call.function call.args l
        → CarriesRepair e number (beginning e.code e.inputs l number)
    of call c fits r =
        let edited : Edited e.code e.inputs e.inputs call.function call.args l number = record { call = fits; fit = fits.blocks; extended = extended-refl e.code e.inputs; trace = r; above = above } in
        record {
          call = call;
          called = c;
          items = l;
          is = is;
          sound = begin-law e.code own e.inputs e.inputs call.function call.args l number number edited (λ j i e. e) (λ j h. above j h);
          carried = carried-same-law e.code e.inputs number (beginning e.code e.inputs l number) (beginning e.code e.inputs l 0) (carried_by e l)
              (carried-begin-law e.code e.inputs e.inputs call.function call.args l number 0 edited) refl (held-words e l e.heap held there) (none-spent e.phase e.work whole);
        }

    go : (c : Option Call) → e.call ≡ c → CarriesRepair e number (beginning e.code e.inputs l number)
    go None c = absurd (false≢true (subst (λ p. is_whole p ≡ true) (k.new c) whole))
    go (Some call) c = of call c (subst (λ o. IfSome o (λ call. Fits e.code e.inputs call.function call.args)) c k.call)
        (subst (λ o. IfSome o (λ call. Replays e.code e.inputs call.function call.args l)) c replays)

pub kept-law : KeptLaw
kept-law e n k m same next' r c = record {
  call = c.call;
  called = same.call ∙ c.called;
  items = c.items;
  is = ap stands_for same.forest ∙ c.is;
  sound = subst (λ code. RepairHolds code own n.inputs c.call.function c.call.args r) (sym same.code)
      (more-law e.code own e.inputs n.inputs c.call.function c.call.args fits fit same.inputs r c.sound);
  carried = subst (λ code. Carried code n.inputs next' r (carried_by n c.items)) (sym same.code)
      (carried-same-law e.code n.inputs next' r (carried_by e c.items) (carried_by n c.items)
      (carried-more-law e.code e.inputs n.inputs fit same.inputs next' r (carried_by e c.items) c.carried) refl (λ b. ap (λ h. words_in h (Core b)) same.heap) same.spent);
}
  where
    fits : Fits e.code e.inputs c.call.function c.call.args
    fits = subst (λ o. IfSome o (λ call. Fits e.code e.inputs call.function call.args)) c.called k.call

    fit : inputs_fit e.code.structs n.inputs ≡ true
    fit = subst (λ code. inputs_fit code.structs n.inputs ≡ true) same.code m.inputs

-- ---- after an edit and a new input

module _ (code : Code) (fuel : ℕ) (inputs more : List Block) (call : Option Call) (extended : Extended code inputs more) (f : Stage → Stage)
    (spent : (g : Stage) (work : ℕ) → spent_in (phase_at (f g)) work ≡ spent_in (phase_at g) work) where
  abbrev state : List Block → Run → EngineState
  state inputs run = state_of code fuel inputs call run

  same-repair : (old run : Run) → OfRuns SameRun f old run → SameRepair (state inputs old) (state more run)
  same-repair its.New run o = subst (λ r. SameRepair (state inputs its.New) (state more r)) (sym o) (record { code = refl; call = refl; forest = refl; heap = refl; spent = refl; inputs = extended })
  same-repair (its.Kept old g) its.New o = elim o [ ]
  same-repair (its.Kept old g) (its.Kept run h) o = record {
    code = refl;
    call = refl;
    forest = ap (λ (t : Timeline). Some (forest_of t.nodes)) o.0.trace;
    heap = ap Some o.0.heap;
    spent = ap (λ h. spent_in (phase_at h) run.spent) o.1 ∙ (ap (spent_in (phase_at (f g))) o.0.spent ∙ spent g old.spent);
    inputs = extended;
  }
  same-repair (its.Kept old g) its.Dropped o = elim o [ ]
  same-repair its.Dropped run o =
      subst (λ r. SameRepair (state inputs its.Dropped) (state more r)) (sym o) (record { code = refl; call = refl; forest = refl; heap = refl; spent = refl; inputs = extended })

-- the repair that is carried is the same
pub carries-still : (code : Code) (fuel : ℕ) (inputs more : List Block) (kept : Kept) (extended : Extended code inputs more) (f : Stage → Stage)
    (spent : (g : Stage) (work : ℕ) → spent_in (phase_at (f g)) work ≡ spent_in (phase_at g) work)
    → (old run : Run) → SoundInside code fuel inputs kept old → SoundInside code fuel more kept run → OfRuns SameRun f old run → (next' : ℕ) (r : Repair)
    → CarriesRepair (state_of code fuel inputs kept.call old) next' r → CarriesRepair (state_of code fuel more kept.call run) next' r
carries-still code fuel inputs more kept extended f spent old run before now o =
    kept-law (state_of code fuel inputs kept.call old) (state_of code fuel more kept.call run) (sound-engine code fuel inputs kept old before) (sound-engine code fuel more kept run now)
    (same-repair code fuel inputs more kept.call extended f spent old run o)

-- what is true of both runs
of-both : (P Q : Running → Running → Type 0) (f : Stage → Stage) → ((old run : Running) → P old run → Q old run) → (old run : Run) → OfRuns P f old run → OfRuns Q f old run
of-both P Q f h its.New run o = o
of-both P Q f h (its.Kept old g) its.New o = elim o [ ]
of-both P Q f h (its.Kept old g) (its.Kept run t) o = (h old run o.0, o.1)
of-both P Q f h (its.Kept old g) its.Dropped o = elim o [ ]
of-both P Q f h its.Dropped run o = o

pub same-base : (p : Place) (w : Word) (old run : Run) → OfRuns (SetsBase p w) edited_at old run → OfRuns SameRun edited_at old run
same-base p w = of-both (SetsBase p w) SameRun edited_at (λ old run o. o.same)

pub same-input : (structs : List StructInfo) (input : ℕ) (shape : Shape) (words : List Word) (old run : Run) → OfRuns (SetsInput structs input shape words) same_stage old run
    → OfRuns SameRun same_stage old run
same-input structs input shape words = of-both (SetsInput structs input shape words) SameRun same_stage (λ old run o. o.same)
