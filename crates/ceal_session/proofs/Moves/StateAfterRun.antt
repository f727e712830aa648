-- What a session is after its engine was brought forward.
use Rattle.std.proofs.Common.{◌≡◌, ◌⊎◌, inl, inr, ℕ, Bool, true, false, Option, Some, None, Ok, Err, List, [], length, is_some, refl, sym, ap, ◌∙◌, subst, arith}
use Rattle.std.specs.Prelude.{IfSome}
use Rattle.ceal_base.specs.Block.{Block}
use Rattle.ceal_base.specs.Finished.{Finished}
use Rattle.ceal_base.specs.Trace.{Trace, steps_of}
use Rattle.ceal_base.specs.declared.call.Call.{Call}
use Rattle.ceal_base.specs.declared.typed.Typed.{Typed}
use Rattle.ceal_code.specs.Fitting.{Fits}
use Rattle.ceal_code.specs.Program.{Code}
use Rattle.ceal_code.specs.Replay.{Replays}
use Rattle.ceal_engine.specs.Engine.{EngineState, IsEngine, IsPresent, IsTraced, is_whole, ReplaysCall, trace, fresh_call, fresh_of, has_run}
use Rattle.ceal_engine.specs.declared.phase.Came.TheVariants.{More, Done, Anew}
use Rattle.ceal_engine.specs.declared.phase.Phase.TheVariants.{New, Finished as IsFinished, Partial, Dropped}
use Rattle.ceal_engine.specs.declared.run_error.RunError.TheVariants.{Memory, OutOfFuel}
use Rattle.ceal_session.proofs.Engine.EngineKeepsPast.{past-none, past-going, past-traced, some-trace}
use Rattle.ceal_session.proofs.Inputs.ExtendedInputs.{extended-same}
use Rattle.ceal_session.proofs.Engine.RunLeavesPast.{few-steps, has-first, no-first}
use Rattle.ceal_session.proofs.Engine.EngineRunIsSource.{code-run}
use Rattle.ceal_session.specs.Outcomes.{Outcome, is_more, journal_after_outcome, IsSliceOf, EngineAfterCall, SituationAfterOutcome}
use Rattle.ceal_session.specs.Journal.{Measure, Number, Between, JournalState}
use Rattle.ceal_session.specs.SessionState.{past_of, call_cost, bound_from, settled_of, situation_of, IsRunOn, IsMeasured, IsSettledOn, WasHonest, SessionInvariant}
use Rattle.ceal_session.specs.Runs.{run_of}
use Rattle.ceal_session.specs.State.{State, Situation}
use Rattle.ceal_session.specs.UndoneEdits.{undone, AreWithin}
use Rattle.ceal_session.specs.Works.{steps_in_first, bound_by}
use Rattle.ceal_theory.specs.Adjust.{Extended}
use Rattle.ceal_theory.specs.Computed.{Repaired, first_of}
use Rattle.ceal_theory.specs.Pasts.{Past, NoTrace, SamePast, goes, first_past, done_past, left_by, slice_of, next_repair, past_after}
use Rattle.ceal_theory.specs.Slices.{Repair}

-- the accepted call
pub the-call : (e : EngineState) → is_some e.call ≡ true → (call : Call) × (e.call ≡ Some call)
the-call e h = go e.call h
  where
    go : (o : Option Call) → is_some o ≡ true → (call : Call) × (o ≡ Some call)
    go None h = absurd (grind (arith, h))
    go (Some call) h = (call, refl)

pub not-new : (e : EngineState) → IsEngine e → is_some e.call ≡ true → e.phase ≡ New → ⊥
not-new e k h ph = let none = k.uncalled ph in absurd (grind (arith, h, none))

pub fits-of : (e : EngineState) → IsEngine e → (call : Call) → e.call ≡ Some call → Fits e.code e.inputs call.function call.args
fits-of e k call i = subst (λ o. IfSome o (λ c. Fits e.code e.inputs c.function c.args)) i k.call

abbrev At : State → Code → Past → Situation
At s c q = record { state = s; code = c; past = q; bound = 0 }

same-dropped : {s t : State} {c d : Code} {q : Past} → s ≡ t → c ≡ d → q ≡ NoTrace → At s c q ≡ At t d NoTrace
same-dropped i j k = rw (i, j, k) refl

module _ (p : Typed) (names : List (List ℕ)) (e : EngineState) (j : JournalState) (pending : Bool) (h : SessionInvariant p names e j pending) (call : Call)
    (fits : Fits e.code e.inputs call.function call.args)
    (reads : Option ℕ) (e' : EngineState) (k' : IsEngine e') where
  abbrev before : Situation
  before = situation_of p names e j pending

  abbrev first : Option Repaired
  first = first_of e.code e.inputs e.fuel call.function call.args

  module _ (outcome : Outcome) (b : EngineAfterCall e call reads outcome e') where
    source-run : run_of before.state call ≡ fresh_of e'
    source-run = code-run p names e j pending h (Some call) fits ∙ sym (rw (b.code, b.fuel, b.inputs, b.called) refl)

    code-fresh : fresh_call e.code e.inputs e.fuel (Some call) ≡ fresh_of e'
    code-fresh = sym (rw (b.code, b.fuel, b.inputs, b.called) refl)

    -- a completed run is that from scratch
    present-run : IsPresent e' → is_some (run_of before.state call) ≡ true
    present-run present = ap is_some (source-run ∙ present.fresh)

    record Firsts (run : Finished) : Type 0 where
      found : Repaired
      is : first ≡ Some found
      steps : steps_of found.items ≡ run.steps

    firsts : (present : IsPresent e') → Firsts present.run
    firsts present =
        let f = has-first e.code e.inputs call.function call.args fits e.fuel present.run (code-fresh ∙ present.fresh) in
        record { found = f.first; is = f.is; steps = f.trace.steps }

    not-going : (e'.phase ≡ IsFinished) ⊎ (has_run e'.phase ≡ false) → goes (past_of e') ≡ false
    not-going (inr n) = ap goes (past-none e' k' n)
    not-going (inl f) =
        let l = some-trace (trace e') (k'.kept ∙ ap has_run f) in
        ap goes (past-traced e' l.0 (ap is_whole f) l.1)

    is-going : e'.phase ≡ Partial → goes (past_of e') ≡ true
    is-going f =
        let l = some-trace (trace e') (k'.kept ∙ ap has_run f) in
        ap goes (past-going e' l.0 f l.1)

    -- no trace is left where the definition's run is out of fuel
    none-left : first ≡ None → (o : Option Repair) → IsSliceOf (Err OutOfFuel) e.code e.inputs o → left_by e.code e.inputs first o ≡ NoTrace
    none-left n o (inl i) = subst (λ o. left_by e.code e.inputs first o ≡ NoTrace) (sym i) (ap first_past n)
    none-left n o (inr (r, i, d)) = subst (λ o. left_by e.code e.inputs first o ≡ NoTrace) (sym i) (rw d (ap (λ f. done_past f r) n))

    no-bound : first ≡ None → (o : Option Repair) → IsSliceOf (Err OutOfFuel) e.code e.inputs o → 0 ≡ bound_by e.code before.state call first o before.bound
    no-bound n o (inl i) = subst (λ o. 0 ≡ bound_by e.code before.state call first o before.bound) (sym i) (ap steps_in_first (sym n))
    no-bound n o (inr (r, i, d)) =
        subst (λ o. 0 ≡ bound_by e.code before.state call first o before.bound) (sym i)
        (subst (λ f. 0 ≡ bound_by e.code before.state call f (Some r) before.bound) (sym n) (rw d refl))

    done-bound : (a : Repaired) → first ≡ Some a → (o : Option Repair) → IsSliceOf (Ok Done) e.code e.inputs o
        → call_cost e.code e.fuel before.state.settled e.inputs (Some call) ≡ bound_by e.code before.state call first o before.bound
    done-bound a f o (r, i, d) =
        subst (λ o. call_cost e.code e.fuel before.state.settled e.inputs (Some call) ≡ bound_by e.code before.state call first o before.bound) (sym i)
        (subst (λ g. call_cost e.code e.fuel before.state.settled e.inputs (Some call) ≡ bound_by e.code before.state call g (Some r) before.bound) (sym f) (rw d refl))

    more-bound : (o : Option Repair) → IsSliceOf (Ok More) e.code e.inputs o → before.bound ≡ bound_by e.code before.state call first o before.bound
    more-bound o (r, i, d) = subst (λ o. before.bound ≡ bound_by e.code before.state call first o before.bound) (sym i) (of-first first)
      where
        of-first : (f : Option Repaired) → before.bound ≡ bound_by e.code before.state call f (Some r) before.bound
        of-first None = rw d refl
        of-first (Some a) = rw d refl

    anew-bound : (a : Repaired) → first ≡ Some a → (n : ℕ) → n ≡ steps_of a.items → (o : Option Repair) → IsSliceOf (Ok Anew) e.code e.inputs o
        → n ≡ bound_by e.code before.state call first o before.bound
    anew-bound a f n s o i =
        subst (λ o. n ≡ bound_by e.code before.state call first o before.bound) (sym i) (s ∙ ap steps_in_first (sym f))

    -- the bound is made of the same
    same-cost : (old new : List Block) → call_cost e'.code e'.fuel old new e'.call ≡ call_cost e.code e.fuel old new (Some call)
    same-cost old new = rw (b.code, b.fuel, b.called) refl

    same-measure : (settled : List Block) (measure : Measure) → e.call ≡ Some call → bound_from e' settled measure ≡ bound_from e settled measure
    same-measure settled (Number n) again = refl
    same-measure settled (Between es) again = same-cost (undone es settled) settled ∙ ap (call_cost e.code e.fuel (undone es settled) settled) (sym again)

  pub advanced : (outcome : Outcome) → (b : EngineAfterCall e call reads outcome e')
      → SituationAfterOutcome before call reads outcome (situation_of p names e' (journal_after_outcome e'.steps j outcome) (is_more outcome))
  advanced (Ok More) b = (
    b.began.1,
    record {
      state = rw (b.fuel, b.inputs, b.phase, b.called, b.began.2) refl;
      going = is-going (Ok More) b b.phase;
      retraces = record {
        code = b.code;
        past = b.makes;
        bound = λ q of same.
            ap (λ i. bound_from e' (undone j.since i) j.measure) b.inputs ∙ (same-measure (Ok More) b (settled_of e j) j.measure b.began.2
            ∙ more-bound (Ok More) b (slice_of e.code e.inputs e.fuel reads (next_repair e.code e.inputs q)) (b.slice q of same));
      };
    },
  )
  advanced (Ok Done) b =
      let f = firsts (Ok Done) b b.completes in (
        present-run (Ok Done) b b.completes,
        record {
          state = rw (b.fuel, b.inputs, b.phase, b.called) refl;
          going = not-going (Ok Done) b (inl b.phase);
          retraces = record {
            code = b.code;
            past = b.makes;
            bound = λ q of same.
                same-cost (Ok Done) b (undone j.since e'.inputs) e'.inputs ∙ (ap (λ i. call_cost e.code e.fuel (undone j.since i) i (Some call)) b.inputs
                ∙ done-bound (Ok Done) b f.found f.is (slice_of e.code e.inputs e.fuel reads (next_repair e.code e.inputs q)) (b.slice q of same));
          };
        },
      )
  advanced (Ok Anew) b =
      let f = firsts (Ok Anew) b b.completes in (
        present-run (Ok Anew) b b.completes,
        record {
          state = rw (b.fuel, b.inputs, b.phase, b.called) refl;
          going = not-going (Ok Anew) b (inl b.phase);
          retraces = record {
            code = b.code;
            past = b.makes;
            bound = λ q of same.
                anew-bound (Ok Anew) b f.found f.is e'.steps (b.completes.is.steps ∙ sym f.steps) (slice_of e.code e.inputs e.fuel reads (next_repair e.code e.inputs q)) (b.slice q of same);
          };
        },
      )
  advanced (Err OutOfFuel) b =
      let none : first ≡ None = no-first e.code e.inputs call.function call.args fits e.fuel (code-fresh (Err OutOfFuel) b ∙ b.completes) in (
        source-run (Err OutOfFuel) b ∙ b.completes,
        record {
          state = rw (b.fuel, b.inputs, b.phase, b.called) refl;
          going = not-going (Err OutOfFuel) b (inr (ap has_run b.phase));
          retraces = record {
            code = b.code;
            past = λ q of same.
                subst (λ (x : Past). SamePast e.code e.inputs call.function call.args (past_after e.code e.inputs e.fuel first reads q) x) (sym (past-none e' k' (ap has_run b.phase)))
                (subst (λ (x : Past). SamePast e.code e.inputs call.function call.args x NoTrace)
                (sym (none-left (Err OutOfFuel) b none (slice_of e.code e.inputs e.fuel reads (next_repair e.code e.inputs q)) (b.slice q of same))) SamePast.none);
            bound = λ q of same. no-bound (Err OutOfFuel) b none (slice_of e.code e.inputs e.fuel reads (next_repair e.code e.inputs q)) (b.slice q of same);
          };
        },
      )
  advanced (Err Memory) b = same-dropped (rw (b.fuel, b.inputs, b.phase, b.called) refl) b.code (past-none e' k' (ap has_run b.phase))

  -- what is true inside
  run-on : {outcome : Outcome} → EngineAfterCall e call reads outcome e' → (inputs : List Block) → IsRunOn e inputs call → IsRunOn e' inputs call
  run-on b inputs r = record {
    fits = subst (λ c. Fits c inputs call.function call.args) (sym b.code) r.fits;
    first = r.first;
    is = rw (b.code, b.fuel) r.is;
  }

  present-on : {outcome : Outcome} → (b : EngineAfterCall e call reads outcome e') → IsPresent e' → IsRunOn e' e.inputs call
  present-on {outcome} b present =
      let f = firsts outcome b present in
      run-on b e.inputs (record { fits = fits; first = f.found; is = f.is })

  on-inputs : {outcome : Outcome} → EngineAfterCall e call reads outcome e' → (P : List Block → Type 0) → P e.inputs → P e'.inputs
  on-inputs b P x = subst P (sym b.inputs) x

  here : {outcome : Outcome} → EngineAfterCall e call reads outcome e' → (P : Call → Type 0) → P call → IfSome e'.call P
  here b P x = subst (λ o. IfSome o P) (sym b.called) x

  settled-now : {outcome : Outcome} → (b : EngineAfterCall e call reads outcome e') → IsPresent e' → IfSome e'.call (IsSettledOn e' e'.inputs)
  settled-now b present = here b (IsSettledOn e' e'.inputs) (record { run = on-inputs b (λ xs. IsRunOn e' xs call) (present-on b present); extended = extended-same e'.code e'.inputs })

  honest-now : {outcome : Outcome} → (b : EngineAfterCall e call reads outcome e') → IsPresent e' → e'.phase ≡ IsFinished → IfSome e'.call (λ call. IfSome (trace e') (WasHonest e' e'.inputs call))
  honest-now b present ph = here b (λ call. IfSome (trace e') (WasHonest e' e'.inputs call)) (go (trace e') (k'.traced ph) (k'.replays (ap is_whole ph)))
    where
      go : (o : Option Trace) → IfSome o (IsTraced e') → IfSome o (ReplaysCall e') → IfSome o (WasHonest e' e'.inputs call)
      go None t r = tt
      go (Some l) t r =
          let replays : Replays e'.code e'.inputs call.function call.args l = subst (λ o. IfSome o (λ c. Replays e'.code e'.inputs c.function c.args l)) b.called r in
          record {
            replays = replays;
            honest = t.honest;
            few = few-steps e'.code e'.inputs call.function call.args (subst (λ o. IfSome o (λ c. Fits e'.code e'.inputs c.function c.args)) b.called k'.call) e'.fuel l replays t.honest present.run
                (subst (λ o. fresh_call e'.code e'.inputs e'.fuel o ≡ Some present.run) b.called present.fresh);
          }

  abbrev Kept : Outcome → Type 0
  Kept outcome = SessionInvariant p names e' (journal_after_outcome e'.steps j outcome) (is_more outcome)

  dropped-kept : (outcome : Outcome) → (b : EngineAfterCall e call reads outcome e') → e'.phase ≡ Dropped → SessionInvariant p names e' (record { since = []; measure = Number 0 }) false
  dropped-kept outcome b ph = record {
    compiled = rw b.code h.compiled;
    named = h.named ∙ ap length (sym b.inputs);
    spelled = h.spelled;
    done = λ i. absurd (grind (arith, ph, i));
    edited = λ i. absurd (grind (arith, ph, i));
    partial = λ i. absurd (grind (arith, ph, i));
    present = λ i. refl;
    within = tt;
    settled = λ i. absurd (grind (arith, ph, i));
    was = λ i. absurd (let w = ap is_whole ph in grind (arith, w, i));
    measured = tt;
  }

  pub holds-behind : (outcome : Outcome) → EngineAfterCall e call reads outcome e' → Kept outcome
  holds-behind (Ok More) b = record {
    compiled = rw b.code h.compiled;
    named = h.named ∙ ap length (sym b.inputs);
    spelled = h.spelled;
    done = λ i. absurd (let ph = b.phase in grind (arith, ph, i));
    edited = λ i. refl;
    partial = λ i. refl;
    present = λ i. absurd (let ph = b.phase in grind (arith, ph, i));
    within = subst (λ i. AreWithin (length i) j.since) (sym b.inputs) h.within;
    settled = λ i. here b (IsSettledOn e' (settled_of e' j))
        (let s : IsSettledOn e (settled_of e j) call = subst (λ o. IfSome o (IsSettledOn e (settled_of e j))) b.began.2 (h.settled b.began.0) in
        record {
          run = on-inputs b (λ xs. IsRunOn e' (undone j.since xs) call) (run-on b (settled_of e j) s.run);
          extended = on-inputs b (λ xs. Extended e'.code (undone j.since xs) xs) (subst (λ c. Extended c (settled_of e j) e.inputs) (sym b.code) s.extended);
        });
    was = λ i. absurd (let w = ap is_whole b.phase in grind (arith, w, i));
    measured = measured-same j.measure h.measured;
  }
    where
      measured-same : (m : Measure) → IsMeasured e (settled_of e j) m → IsMeasured e' (settled_of e' j) m
      measured-same (Number n) x = tt
      measured-same (Between es) x =
          let both : IsRunOn e (undone es (settled_of e j)) call × IsRunOn e (settled_of e j) call =
          subst (λ o. IfSome o (λ call. IsRunOn e (undone es (settled_of e j)) call × IsRunOn e (settled_of e j) call)) b.began.2 x.1 in
          on-inputs b (λ xs. IsMeasured e' (undone j.since xs) (Between es))
          (x.0, here b (λ call. IsRunOn e' (undone es (settled_of e j)) call × IsRunOn e' (settled_of e j) call) (run-on b (undone es (settled_of e j)) both.0, run-on b (settled_of e j) both.1))
  holds-behind (Ok Done) b = record {
    compiled = rw b.code h.compiled;
    named = h.named ∙ ap length (sym b.inputs);
    spelled = h.spelled;
    done = λ i. refl;
    edited = λ i. absurd (let ph = b.phase in grind (arith, ph, i));
    partial = λ i. absurd (let ph = b.phase in grind (arith, ph, i));
    present = λ i. refl;
    within = tt;
    settled = λ i. settled-now b b.completes;
    was = λ i. honest-now b b.completes b.phase;
    measured =
        let s : IsSettledOn e (settled_of e j) call = subst (λ o. IfSome o (IsSettledOn e (settled_of e j))) b.began.1 (h.settled b.began.0) in
        on-inputs b (λ xs. AreWithin (length xs) j.since × IfSome e'.call (λ call. IsRunOn e' (undone j.since xs) call × IsRunOn e' xs call))
        (h.within, here b (λ call. IsRunOn e' (settled_of e j) call × IsRunOn e' e.inputs call) (run-on b (settled_of e j) s.run, present-on b b.completes));
  }
  holds-behind (Ok Anew) b = record {
    compiled = rw b.code h.compiled;
    named = h.named ∙ ap length (sym b.inputs);
    spelled = h.spelled;
    done = λ i. refl;
    edited = λ i. absurd (let ph = b.phase in grind (arith, ph, i));
    partial = λ i. absurd (let ph = b.phase in grind (arith, ph, i));
    present = λ i. refl;
    within = tt;
    settled = λ i. settled-now b b.completes;
    was = λ i. honest-now b b.completes b.phase;
    measured = tt;
  }
  holds-behind (Err OutOfFuel) b = dropped-kept (Err OutOfFuel) b b.phase
  holds-behind (Err Memory) b = dropped-kept (Err Memory) b b.phase
