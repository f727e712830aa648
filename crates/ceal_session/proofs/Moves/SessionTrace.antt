-- What is true of the trace of a session.
use Rattle.std.proofs.Common.{◌≡◌, inl, inr, ℕ, Bool, true, false, Option, Some, None, List, refl, sym, ap, ◌∙◌, subst, arith}
use Rattle.std.specs.Prelude.{IfSome}
use Rattle.ceal_base.specs.Trace.{Trace}
use Rattle.ceal_base.specs.declared.call.Call.{Call}
use Rattle.ceal_base.specs.declared.typed.Typed.{Typed}
use Rattle.ceal_code.specs.Replay.{Replays}
use Rattle.ceal_engine.specs.Engine.{EngineState, IsEngine, IsWhole, ReplaysCall, trace, has_run}
use Rattle.ceal_engine.specs.declared.phase.Phase.{Phase}
use Rattle.ceal_engine.specs.declared.phase.Phase.TheVariants.{New, Finished, Pending, Partial, Dropped}
use Rattle.ceal_session.proofs.Moves.StateAfterRun.{fits-of}
use Rattle.ceal_session.proofs.Engine.EngineKeepsPast.{past-going, past-none, past-traced, some-trace, whole-or-part, whole-runs}
use Rattle.ceal_session.proofs.Inputs.UndoneEdits.{undone-count}
use Rattle.ceal_session.specs.Journal.{JournalState}
use Rattle.ceal_session.specs.SessionState.{is_dropped, past_of, settled_of, situation_of, IsSettledOn, WasHonest, SessionInvariant}
use Rattle.ceal_session.specs.Consistency.{HasTraceOf, HasTrace}
use Rattle.ceal_session.specs.State.{Situation, trace_in_past}
use Rattle.ceal_theory.specs.Computed.{Repaired}

whole-within : (phase : Phase) → IsWhole phase → is_dropped phase ≡ false
whole-within New h = refl
whole-within Finished h = refl
whole-within Pending h = refl
whole-within Partial h = refl
whole-within Dropped h = absurd (grind (arith, h))

module _ (p : Typed) (names : List (List ℕ)) (e : EngineState) (j : JournalState) (pending : Bool) (h : SessionInvariant p names e j pending) (k : IsEngine e) where
  abbrev m : Situation
  m = situation_of p names e j pending

  -- a run is that of a call
  run-call : has_run e.phase ≡ true → (o : Option Call) → e.call ≡ o → (call : Call) × (e.call ≡ Some call)
  run-call runs None i = absurd (let new = k.new i in let r = ap has_run new in grind (arith, runs, r))
  run-call runs (Some call) i = (call, i)

  same-inputs : (phase : Phase) → e.phase ≡ phase → IsWhole phase → pending ≡ false → settled_of e j ≡ e.inputs
  same-inputs New i w q = absurd (grind (arith, w))
  same-inputs Finished i w q = rw (h.present i) refl
  same-inputs Pending i w q = absurd (let t = h.edited i in grind (arith, t, q))
  same-inputs Partial i w q = absurd (grind (arith, w))
  same-inputs Dropped i w q = absurd (grind (arith, w))

  of-trace : IsWhole e.phase → (l : Trace) → trace e ≡ Some l → (call : Call) → e.call ≡ Some call → HasTraceOf m call (record { items = l; work = e.work })
  of-trace w l is call called =
      let s : IsSettledOn e (settled_of e j) call = subst (λ o. IfSome o (IsSettledOn e (settled_of e j))) called (h.settled (whole-runs e.phase w)) in
      let was : WasHonest e (settled_of e j) call l =
      subst (λ o. IfSome o (WasHonest e (settled_of e j) call)) is (subst (λ o. IfSome o (λ c. IfSome (trace e) (WasHonest e (settled_of e j) c))) called (h.was w)) in
      record {
        now = fits-of e k call called;
        was = s.run.fits;
        settled = record { fits = s.run.fits.blocks; extended = s.extended; count = undone-count j.since e.inputs };
        trace = record {
          within = whole-within e.phase w;
          replays = subst (λ o. IfSome o (λ c. Replays e.code e.inputs c.function c.args l)) called (subst (λ o. IfSome o (ReplaysCall e)) is (k.replays w));
          was = was.replays;
          honest = was.honest;
          few = was.few;
          same = same-inputs e.phase refl w;
        };
      }

  abbrev Here : Option Repaired → Type 0
  Here o = IfSome o (λ l. (call : Call) × (m.state.call ≡ Some call) × HasTraceOf m call l)

  pub has-trace : HasTrace m
  has-trace = go (has_run e.phase) refl
    where
      whole : IsWhole e.phase → Here (trace_in_past (past_of e))
      whole w =
          let l = some-trace (trace e) (k.kept ∙ whole-runs e.phase w) in
          let c = run-call (whole-runs e.phase w) e.call refl in
          subst (λ q. Here (trace_in_past q)) (sym (past-traced e l.0 w l.1)) (c.0, c.1, of-trace w l.0 l.1 c.0 c.1)

      part : e.phase ≡ Partial → Here (trace_in_past (past_of e))
      part i =
          let l = some-trace (trace e) (k.kept ∙ ap has_run i) in
          subst (λ q. Here (trace_in_past q)) (sym (past-going e l.0 i l.1)) tt

      go : (b : Bool) → has_run e.phase ≡ b → Here (trace_in_past (past_of e))
      go true i = elim (whole-or-part e.phase i) [ inl w ↦ whole w | inr i ↦ part i ]
      go false i = subst (λ q. Here (trace_in_past q)) (sym (past-none e k i)) tt
