-- The record of an engine's run is that of the session's trace.
use Rattle.std.proofs.Common.{◌≡◌, ℕ, Bool, Option, Some, None, List, refl, sym, ap, ◌∙◌, subst}
use Rattle.std.specs.Option.{option_map}
use Rattle.std.specs.Prelude.{IfSome}
use Rattle.ceal_base.specs.Trace.{Trace, flat}
use Rattle.ceal_base.specs.declared.call.Call.{Call}
use Rattle.ceal_base.specs.declared.forest.Item.{Item}
use Rattle.ceal_base.specs.declared.recorded.Record.{Record}
use Rattle.ceal_base.specs.declared.typed.Typed.{Typed}
use Rattle.ceal_engine.specs.Engine.{EngineState, IsEngine, ReplaysCall, is_whole, trace}
use Rattle.ceal_code.specs.Fitting.{Fits}
use Rattle.ceal_code.specs.Replay.{Replays}
use Rattle.ceal_record.specs.Recorded.{IsRecordOf, IsTraceOf}
use Rattle.ceal_session.proofs.Engine.EngineKeepsPast.{past-traced}
use Rattle.ceal_session.proofs.Engine.EngineRunIsSource.{ready-finished}
use Rattle.ceal_session.specs.Questions.{IsReady}
use Rattle.ceal_session.specs.Journal.{JournalState}
use Rattle.ceal_session.specs.SessionState.{state_of, situation_of, SessionInvariant}
use Rattle.ceal_engine.specs.declared.phase.Phase.TheVariants.{Finished}
use Rattle.ceal_session.specs.RunRecord.{IsRecorded}
use Rattle.ceal_session.specs.State.{trace_in_past}

module _ (p : Typed) (names : List (List ℕ)) (e : EngineState) (j : JournalState) (pending : Bool) (h : SessionInvariant p names e j pending) (k : IsEngine e)
    (ready : IsReady (state_of p names e j pending)) where
  module _ (items : List Item) (forest : e.forest ≡ Some items) (call : Call) (called : e.call ≡ Some call) (r : Record)
      (is : (l : Trace) → items ≡ flat l → IsTraceOf e.code e.inputs call l → IsRecordOf e.code e.inputs call l r) where
    finished : e.phase ≡ Finished
    finished = ready-finished p names e j pending h k ready

    by-trace : (o : Option Trace) → trace e ≡ o → e.forest ≡ option_map flat o → IfSome o (ReplaysCall e) → IsRecorded (situation_of p names e j pending) r
    by-trace None t f w = absurd (cc (sym forest ∙ f))
    by-trace (Some l) t f w =
        let same : items ≡ flat l = cc (sym forest ∙ f) in
        let of : IsTraceOf e.code e.inputs call l = record {
          fits = subst (λ o. IfSome o (λ c. Fits e.code e.inputs c.function c.args)) called k.call;
          replays = subst (λ o. IfSome o (λ c. Replays e.code e.inputs c.function c.args l)) called w;
        } in record {
          ready = ready;
          call = call;
          called = called;
          run = record { items = l; work = e.work };
          traced = ap trace_in_past (past-traced e l (ap is_whole finished) t);
          of = of;
          is = is l same of;
        }

    -- the record of the engine's items is that of the session's trace
    pub record-is : IsRecorded (situation_of p names e j pending) r
    record-is = by-trace (trace e) refl k.flat_form (k.replays (ap is_whole finished))
