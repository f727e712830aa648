-- What a session is after an edit, and after one input more.
use Rattle.std.proofs.Common.{◌≡◌, ℕ, ◌<◌, Bool, true, Option, Some, None, List, [], ◌∷◌, ◌++◌, length, suc, refl, sym, ap, ap₂, ◌∙◌, subst, length-append, arith, slice_get}
use Rattle.std.specs.Prelude.{IfSome}
use Rattle.ceal_base.specs.Block.{Block, block_at, alone}
use Rattle.ceal_base.specs.Fitting.{kind_in, kind_at, block_fits, inputs_fit}
use Rattle.ceal_base.specs.Shapes.{kinds_of_shape}
use Rattle.ceal_base.specs.Trace.{Trace}
use Rattle.ceal_base.specs.declared.call.Call.{Call}
use Rattle.ceal_base.specs.declared.typed.Typed.{Typed}
use Rattle.ceal_base.specs.declared.word.BlockId.{BlockId}
use Rattle.ceal_base.specs.declared.word.BlockId.TheVariants.{Input, Core}
use Rattle.ceal_base.specs.declared.word.Place.{Place}
use Rattle.ceal_base.specs.declared.word.Word.{Word}
use Rattle.ceal_code.proofs.TypedCode.FittingInputs.{longer-fits}
use Rattle.ceal_code.proofs.TypedCode.ShapesKept.{ShapesKept, fields-kept}
use Rattle.ceal_code.proofs.Replay.MemoryChanges.{get-within}
use Rattle.ceal_code.proofs.Words.SameIsEqual.{some-same}
use Rattle.ceal_code.specs.Fitting.{Fits}
use Rattle.ceal_code.specs.Replay.{Replays}
use Rattle.ceal_code.specs.Value.{is_cell}
use Rattle.ceal_cost.proofs.Firsts.{more-first}
use Rattle.ceal_cost.specs.Bounds.{first_cost, aligned_of}
use Rattle.ceal_engine.specs.Engine.{EngineState, IsWhole, with_base, phase_after_edit, trace, has_run, stands_for}
use Rattle.ceal_engine.specs.declared.phase.Phase.{Phase}
use Rattle.ceal_engine.specs.declared.phase.Phase.TheVariants.{New, Finished, Pending, Partial, Dropped}
use Rattle.ceal_script.specs.Spelling.{IsName}
use Rattle.ceal_session.proofs.Engine.EngineKeepsPast.{whole-runs}
use Rattle.ceal_session.proofs.Engine.ProgramAndCode.{same-structs}
use Rattle.ceal_session.proofs.Inputs.ExtendedInputs.{extended-on, extended-both, extended-edited, extended-longer, same-bases}
use Rattle.ceal_session.proofs.Engine.RunLeavesPast.{first-ends, has-first}
use Rattle.ceal_session.proofs.Inputs.ShapesOfInputs.{spelled-more}
use Rattle.ceal_session.proofs.Inputs.UndoneEdits.{base-count, undone-more, put-back, undone-count, undone-longer, are-within-more, are-within-push, shapes-undone}
use Rattle.ceal_session.specs.Questions.{IsCellOf}
use Rattle.ceal_session.specs.AfterLine.{KeepsRuns}
use Rattle.ceal_session.specs.Journal.{Measure, Number, Between, JournalState, with_edit}
use Rattle.ceal_session.specs.SessionState.{is_dropped, past_of, past_by, traced_by, going_by, call_cost, bound_from, settled_of, state_of, situation_of, IsRunOn, IsMeasured, IsSettledOn, WasHonest}
use Rattle.ceal_session.specs.SessionState.{SessionInvariant}
use Rattle.ceal_session.specs.Steps.{with_base as state_with_base, with_input}
use Rattle.ceal_session.specs.UndoneEdits.{undone, base_at, IsWithin, AreWithin}
use Rattle.ceal_session.specs.declared.journal.Edit.{Edit}
use Rattle.ceal_theory.proofs.Store.MoreInputs.{inputs-law}
use Rattle.ceal_theory.specs.Pasts.{Traced, Going}

edited-drops : (phase : Phase) → is_dropped (phase_after_edit phase) ≡ is_dropped phase
edited-drops New = refl
edited-drops Finished = refl
edited-drops Pending = refl
edited-drops Partial = refl
edited-drops Dropped = refl

edited-runs : (phase : Phase) → has_run (phase_after_edit phase) ≡ true → has_run phase ≡ true
edited-runs New h = h
edited-runs Finished h = h
edited-runs Pending h = h
edited-runs Partial h = h
edited-runs Dropped h = h

edited-whole : (phase : Phase) → IsWhole (phase_after_edit phase) → IsWhole phase
edited-whole New h = h
edited-whole Finished h = refl
edited-whole Pending h = h
edited-whole Partial h = h
edited-whole Dropped h = h

not-finished : (phase : Phase) → phase_after_edit phase ≡ Finished → ⊥
not-finished New h = absurd (grind (arith, h))
not-finished Finished h = absurd (grind (arith, h))
not-finished Pending h = absurd (grind (arith, h))
not-finished Partial h = absurd (grind (arith, h))
not-finished Dropped h = absurd (grind (arith, h))

-- the second engine has the run of the first one
module _ (e e' : EngineState) (code : e'.code ≡ e.code) (fuel : e'.fuel ≡ e.fuel) (call : e'.call ≡ e.call) (forest : e'.forest ≡ e.forest) (heap : e'.heap ≡ e.heap) (work : e'.work ≡ e.work) where
  pub same-trace : trace e' ≡ trace e
  same-trace = ap stands_for forest

  traced-same : traced_by e' (trace e') ≡ traced_by e (trace e)
  traced-same = ap (traced_by e') same-trace ∙ go (trace e)
    where
      go : (o : Option Trace) → traced_by e' o ≡ traced_by e o
      go None = refl
      go (Some l) = ap (λ n. Traced (record { items = l; work = n })) work

  going-same : e'.phase ≡ e.phase → going_by e' (trace e') ≡ going_by e (trace e)
  going-same phase = ap (going_by e') same-trace ∙ go (trace e)
    where
      go : (o : Option Trace) → going_by e' o ≡ going_by e o
      go None = refl
      go (Some l) = ap Going (rw (heap, phase, work) refl)

  pub past-same : e'.phase ≡ e.phase → past_of e' ≡ past_of e
  past-same phase = ap (λ f. past_by f e') phase ∙ go e.phase
    where
      go : (f : Phase) → past_by f e' ≡ past_by f e
      go New = traced-same
      go Finished = traced-same
      go Pending = traced-same
      go Partial = going-same phase
      go Dropped = traced-same

  past-edited : e'.phase ≡ phase_after_edit e.phase → past_of e' ≡ past_of e
  past-edited phase = ap (λ f. past_by f e') phase ∙ go e.phase refl
    where
      go : (f : Phase) → e.phase ≡ f → past_by (phase_after_edit f) e' ≡ past_by f e
      go New i = traced-same
      go Finished i = traced-same
      go Pending i = traced-same
      go Partial i = going-same (phase ∙ (ap phase_after_edit i ∙ sym i))
      go Dropped i = traced-same

  pub run-same : (xs : List Block) (c : Call) → IsRunOn e xs c → IsRunOn e' xs c
  run-same xs c r = record { fits = subst (λ d. Fits d xs c.function c.args) (sym code) r.fits; first = r.first; is = rw (code, fuel) r.is }

  pub if-call : {P Q : Call → Type 0} → ((c : Call) → P c → Q c) → IfSome e.call P → IfSome e'.call Q
  if-call {P} {Q} f h = subst (λ o. IfSome o Q) (sym call) (go e.call h)
    where
      go : (o : Option Call) → IfSome o P → IfSome o Q
      go None x = tt
      go (Some c) x = f c x

  pub bound-same : (xs : List Block) (measure : Measure) → bound_from e' xs measure ≡ bound_from e xs measure
  bound-same xs (Number n) = refl
  bound-same xs (Between es) = rw (code, fuel, call) refl

  pub measured-same : (xs : List Block) (measure : Measure) → IsMeasured e xs measure → IsMeasured e' xs measure
  measured-same xs (Number n) h = tt
  measured-same xs (Between es) h = (h.0, if-call (λ c r. (run-same (undone es xs) c r.0, run-same xs c r.1)) h.1)

  pub was-same : (xs : List Block) → IfSome e.call (λ c. IfSome (trace e) (WasHonest e xs c)) → IfSome e'.call (λ c. IfSome (trace e') (WasHonest e' xs c))
  was-same xs h = if-call (λ c r. subst (λ o. IfSome o (WasHonest e' xs c)) (sym same-trace) (go c (trace e) r)) h
    where
      go : (c : Call) (o : Option Trace) → IfSome o (WasHonest e xs c) → IfSome o (WasHonest e' xs c)
      go c None r = tt
      go c (Some l) r = record { replays = rw code r.replays; honest = rw code r.honest; few = rw fuel r.few }

module _ (p : Typed) (names : List (List ℕ)) (e : EngineState) (j : JournalState) (pending : Bool) (h : SessionInvariant p names e j pending) (e' : EngineState)
    (code : e'.code ≡ e.code) (fuel : e'.fuel ≡ e.fuel) (call : e'.call ≡ e.call) (forest : e'.forest ≡ e.forest) (heap : e'.heap ≡ e.heap) (work : e'.work ≡ e.work) where
  -- an edit
  module _ (place : Place) (word : Word) (cell : IsCellOf (state_of p names e j pending) place) (phase : e'.phase ≡ phase_after_edit e.phase) (inputs : e'.inputs ≡ with_base e.inputs place word) where
    abbrev edit : Edit
    edit = record { place = place; base = base_at e.inputs place }

    abbrev j' : JournalState
    j' = with_edit j edit

    same-settled : settled_of e' j' ≡ settled_of e j
    same-settled =
        undone-more j.since edit e'.inputs
        ∙ ap (undone j.since) (ap (λ i. with_base i place (base_at e.inputs place)) inputs ∙ put-back e.inputs place word)

    pub edited-state : state_of p names e' j' true ≡ state_with_base (state_of p names e j pending) place word
    edited-state = rw (same-settled, fuel, inputs, call, phase, edited-drops e.phase) refl

    pub edited-keeps : KeepsRuns (situation_of p names e j pending) (situation_of p names e' j' true)
    edited-keeps = record {
      code = code;
      past = past-edited e e' code fuel call forest heap work phase;
      bound = ap (λ xs. bound_from e' xs j.measure) same-settled ∙ bound-same e e' code fuel call forest heap work (settled_of e j) j.measure;
    }

    within-block : (b : BlockId) → is_cell (kind_in p.structs (block_at (alone e.inputs) b) place.field) ≡ true → IsWithin (length e.inputs) b
    within-block (Input n) c = go (slice_get e.inputs n) refl c
      where
        go : (o : Option Block) → slice_get e.inputs n ≡ o → is_cell (kind_in p.structs o place.field) ≡ true → n < length e.inputs
        go None i c = absurd (grind (arith, c))
        go (Some b) i c = get-within e.inputs n b i
    within-block (Core n) c = absurd (grind (arith, c))

    cell-in-code : is_cell (kind_at e.code.structs (alone e.inputs) place) ≡ true
    cell-in-code = subst (λ k. is_cell (kind_at k (alone e.inputs) place) ≡ true) (sym (same-structs p e.code h.compiled.code)) cell

    settled-edited : (c : Call) → IsSettledOn e (settled_of e j) c → IsSettledOn e' (settled_of e j) c
    settled-edited c r = record {
      run = run-same e e' code fuel call forest heap work (settled_of e j) c r.run;
      extended = rw (code, inputs) (extended-on e.code (settled_of e j) e.inputs (with_base e.inputs place word) r.extended (extended-edited e.code e.inputs place word cell-in-code));
    }

    same-count : length e'.inputs ≡ length e.inputs
    same-count = ap length inputs ∙ base-count e.inputs place word

    pub edited-holds : SessionInvariant p names e' j' true
    edited-holds = record {
      compiled = rw code h.compiled;
      named = h.named ∙ sym same-count;
      spelled = h.spelled;
      done = λ i. absurd (not-finished e.phase (sym phase ∙ i));
      edited = λ i. refl;
      partial = λ i. refl;
      present = λ i. absurd (not-finished e.phase (sym phase ∙ i));
      within = subst (λ n. AreWithin n j'.since) (sym same-count) (are-within-push j.since edit (length e.inputs) h.within (within-block place.block cell));
      settled = λ i. subst (λ xs. IfSome e'.call (IsSettledOn e' xs)) (sym same-settled)
          (if-call e e' code fuel call forest heap work settled-edited (h.settled (edited-runs e.phase (sym (ap has_run phase) ∙ i))));
      was = λ i. subst (λ xs. IfSome e'.call (λ c. IfSome (trace e') (WasHonest e' xs c))) (sym same-settled)
          (was-same e e' code fuel call forest heap work (settled_of e j) (h.was (edited-whole e.phase (subst IsWhole phase i))));
      measured = subst (λ xs. IsMeasured e' xs j.measure) (sym same-settled) (measured-same e e' code fuel call forest heap work (settled_of e j) j.measure h.measured);
    }

  -- one input more
  module _ (name : List ℕ) (b : Block) (fits : block_fits p.structs (alone e.inputs) b ≡ true) (phase : e'.phase ≡ e.phase) (inputs : e'.inputs ≡ e.inputs ++ b ∷ []) where
    abbrev names' : List (List ℕ)
    names' = names ++ name ∷ []

    longer-settled : settled_of e' j ≡ settled_of e j ++ b ∷ []
    longer-settled = ap (undone j.since) inputs ∙ undone-longer j.since e.inputs b h.within

    pub longer-state : state_of p names' e' j pending ≡ with_input (state_of p names e j pending) name b
    longer-state = rw (longer-settled, fuel, inputs, call, phase) refl

    code-fits : (xs : List Block) → ShapesKept (alone e.inputs) (alone xs) → block_fits e.code.structs (alone xs) b ≡ true
    code-fits xs kept =
        subst (λ s. block_fits s (alone xs) b ≡ true) (sym (same-structs p e.code h.compiled.code))
        (fields-kept p.structs (alone e.inputs) (alone xs) kept (kinds_of_shape p.structs b.shape) b.words fits)

    settled-shapes : ShapesKept (alone e.inputs) (alone (settled_of e j))
    settled-shapes = shapes-undone j.since e.inputs

    -- a run that ends does so on one input more
    module _ (xs : List Block) (c : Call) (r : IsRunOn e xs c) (fit : block_fits e.code.structs (alone xs) b ≡ true) where
      fit-all : inputs_fit e.code.structs (xs ++ b ∷ []) ≡ true
      fit-all = longer-fits e.code.structs xs b r.fits.blocks fit

      first-replays : Replays e.code xs c.function c.args r.first.items
      first-replays =
          let ends = first-ends e.code xs c.function c.args r.fits e.fuel r.first r.is in
          let found = has-first e.code xs c.function c.args r.fits e.fuel ends.0 ends.1 in
          subst (λ a. Replays e.code xs c.function c.args a.items) (some-same found.first r.first (sym found.is ∙ r.is)) found.trace.replays

      run-longer : IsRunOn e (xs ++ b ∷ []) c
      run-longer = record {
        fits = (inputs-law e.code xs (xs ++ b ∷ []) c.function c.args r.fits fit-all (extended-longer e.code xs b) r.first.items first-replays).call;
        first = r.first;
        is = more-first e.code xs (xs ++ b ∷ []) c.function c.args r.fits fit-all (extended-longer e.code xs b) (same-bases e.code xs b) e.fuel r.first r.is;
      }

    undone-settled : (es : List Edit) → AreWithin (length (settled_of e j)) es → undone es (settled_of e j ++ b ∷ []) ≡ undone es (settled_of e j) ++ b ∷ []
    undone-settled es w = undone-longer es (settled_of e j) b w

    undone-shapes : (es : List Edit) → ShapesKept (alone e.inputs) (alone (undone es (settled_of e j)))
    undone-shapes es c y i =
        let s = settled-shapes c y i in
        let t = shapes-undone es (settled_of e j) c s.0 s.1 in (t.0, t.1, t.2 ∙ s.2)

    cost-longer : (es : List Edit) → AreWithin (length (settled_of e j)) es → (o : Option Call) → IfSome o (λ c. IsRunOn e (undone es (settled_of e j)) c × IsRunOn e (settled_of e j) c)
        → call_cost e.code e.fuel (undone es (settled_of e j ++ b ∷ [])) (settled_of e j ++ b ∷ []) o ≡ call_cost e.code e.fuel (undone es (settled_of e j)) (settled_of e j) o
    unfolding run-longer
    cost-longer es w None r = refl
    cost-longer es w (Some c) r =
        let old = run-longer (undone es (settled_of e j)) c r.0 (code-fits (undone es (settled_of e j)) (undone-shapes es)) in
        let new = run-longer (settled_of e j) c r.1 (code-fits (settled_of e j) settled-shapes) in
        ap (λ xs. first_cost e.code e.fuel xs (settled_of e j ++ b ∷ []) c.function c.args) (undone-settled es w)
        ∙ (ap₂ aligned_of old.is new.is ∙ sym (ap₂ aligned_of r.0.is r.1.is))

    bound-longer : (measure : Measure) → IsMeasured e (settled_of e j) measure → bound_from e (settled_of e j ++ b ∷ []) measure ≡ bound_from e (settled_of e j) measure
    bound-longer (Number n) m = refl
    bound-longer (Between es) m = cost-longer es m.0 e.call m.1

    measured-longer : (measure : Measure) → IsMeasured e (settled_of e j) measure → IsMeasured e (settled_of e j ++ b ∷ []) measure
    measured-longer (Number n) m = tt
    measured-longer (Between es) m = (
      subst (λ n. AreWithin n es) (sym count) (are-within-more es (length (settled_of e j)) m.0),
      go e.call m.1,
    )
      where
        count : length (settled_of e j ++ b ∷ []) ≡ suc (length (settled_of e j))
        count = let a = length-append (settled_of e j) (b ∷ []) in omega (arith, a)

        go : (o : Option Call) → IfSome o (λ c. IsRunOn e (undone es (settled_of e j)) c × IsRunOn e (settled_of e j) c)
            → IfSome o (λ c. IsRunOn e (undone es (settled_of e j ++ b ∷ [])) c × IsRunOn e (settled_of e j ++ b ∷ []) c)
        go None r = tt
        go (Some c) r = (
          subst (λ xs. IsRunOn e xs c) (sym (undone-settled es m.0)) (run-longer (undone es (settled_of e j)) c r.0 (code-fits (undone es (settled_of e j)) (undone-shapes es))),
          run-longer (settled_of e j) c r.1 (code-fits (settled_of e j) settled-shapes),
        )

    pub longer-keeps : KeepsRuns (situation_of p names e j pending) (situation_of p names' e' j pending)
    longer-keeps = record {
      code = code;
      past = past-same e e' code fuel call forest heap work phase;
      bound =
          ap (λ xs. bound_from e' xs j.measure) longer-settled
          ∙ (bound-same e e' code fuel call forest heap work (settled_of e j ++ b ∷ []) j.measure ∙ bound-longer j.measure h.measured);
    }

    settled-longer : (c : Call) → IsSettledOn e (settled_of e j) c → IsSettledOn e' (settled_of e j ++ b ∷ []) c
    settled-longer c r = record {
      run = run-same e e' code fuel call forest heap work (settled_of e j ++ b ∷ []) c (run-longer (settled_of e j) c r.run (code-fits (settled_of e j) settled-shapes));
      extended = rw (code, inputs) (extended-both e.code (settled_of e j) e.inputs r.extended (undone-count j.since e.inputs) b);
    }

    was-longer : has_run e.phase ≡ true → IfSome e.call (λ c. IfSome (trace e) (WasHonest e (settled_of e j) c)) → IfSome e.call (λ c. IfSome (trace e) (WasHonest e (settled_of e j ++ b ∷ []) c))
    was-longer runs h' = go e.call (h.settled runs) h'
      where
        on-trace : (c : Call) → IsSettledOn e (settled_of e j) c → (o : Option Trace) → IfSome o (WasHonest e (settled_of e j) c) → IfSome o (WasHonest e (settled_of e j ++ b ∷ []) c)
        on-trace c s None w = tt
        on-trace c s (Some l) w =
            let more = inputs-law e.code (settled_of e j) (settled_of e j ++ b ∷ []) c.function c.args s.run.fits
            (longer-fits e.code.structs (settled_of e j) b s.run.fits.blocks (code-fits (settled_of e j) settled-shapes)) (extended-longer e.code (settled_of e j) b) l w.replays in
            record { replays = more.replays; honest = more.honest (same-bases e.code (settled_of e j) b) w.honest; few = w.few }

        go : (o : Option Call) → IfSome o (IsSettledOn e (settled_of e j)) → IfSome o (λ c. IfSome (trace e) (WasHonest e (settled_of e j) c))
            → IfSome o (λ c. IfSome (trace e) (WasHonest e (settled_of e j ++ b ∷ []) c))
        go None s w = tt
        go (Some c) s w = on-trace c s (trace e) w

    pub longer-holds : IsName name → SessionInvariant p names' e' j pending
    longer-holds is-name = record {
      compiled = rw code h.compiled;
      named =
          let a = length-append names (name ∷ []) in
          let c = length-append e.inputs (b ∷ []) in
          let n = h.named in
          let i = ap length inputs in
          omega (arith, a, c, n, i);
      spelled = spelled-more names name h.spelled is-name;
      done = λ i. h.done (sym phase ∙ i);
      edited = λ i. h.edited (sym phase ∙ i);
      partial = λ i. h.partial (sym phase ∙ i);
      present = λ i. h.present (sym phase ∙ i);
      within = subst (λ n. AreWithin n j.since) (sym count) (are-within-more j.since (length e.inputs) h.within);
      settled = λ i. subst (λ xs. IfSome e'.call (IsSettledOn e' xs)) (sym longer-settled)
          (if-call e e' code fuel call forest heap work settled-longer (h.settled (sym (ap has_run phase) ∙ i)));
      was = λ i. let w = subst IsWhole phase i in
          subst (λ xs. IfSome e'.call (λ c. IfSome (trace e') (WasHonest e' xs c))) (sym longer-settled)
          (was-same e e' code fuel call forest heap work (settled_of e j ++ b ∷ []) (was-longer (whole-runs e.phase w) (h.was w)));
      measured = subst (λ xs. IsMeasured e' xs j.measure) (sym longer-settled)
          (measured-same e e' code fuel call forest heap work (settled_of e j ++ b ∷ []) j.measure (measured-longer j.measure h.measured));
    }
      where
        count : length e'.inputs ≡ suc (length e.inputs)
        count = let c = length-append e.inputs (b ∷ []) in let i = ap length inputs in omega (arith, c, i)
