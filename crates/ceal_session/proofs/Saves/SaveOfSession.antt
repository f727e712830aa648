-- The save of a session is that of the situation that it is in, and there is one.
use Rattle.std.proofs.Common.{◌≡◌, Some, sym, ap, ◌∙◌, subst}
use Rattle.ceal_base.specs.declared.call.Call.{Call}
use Rattle.ceal_base.specs.declared.recorded.Record.{Record}
use Rattle.ceal_code.proofs.Words.SameIsEqual.{some-same}
use Rattle.ceal_code.specs.Fitting.{Fits}
use Rattle.ceal_code.specs.Replay.{Replays}
use Rattle.ceal_record.specs.Laws.{OneRecordLaw, RenamedLaw}
use Rattle.ceal_record.specs.Recorded.{IsRecordOf, IsTraceOf}
use Rattle.ceal_session.proofs.Engine.EngineKeepsPast.{same-traced}
use Rattle.ceal_session.proofs.Replies.ReplyUpToNumbers.{is-work}
use Rattle.ceal_session.specs.Questions.{IsReady}
use Rattle.ceal_session.specs.RunRecord.{IsRecorded}
use Rattle.ceal_session.specs.SaveLaws.{OneSavedLaw, SavedLaw}
use Rattle.ceal_session.specs.Consistency.{IsIn, IsPastIn, IsSamePast}
use Rattle.ceal_session.specs.State.{State, Situation, trace_in_past}
use Rattle.ceal_snap.proofs.ReadBack.{same-save}
use Rattle.ceal_theory.specs.Computed.{Repaired}
use Rattle.ceal_theory.specs.Laws.{RenamedRepair}
use Rattle.ceal_theory.specs.Pasts.{Past, NoTrace, Traced, Going, SamePast}

pub traced-in : (q : Past) (run : Repaired) → trace_in_past q ≡ Some run → q ≡ Traced run
traced-in NoTrace run e = absurd (cc e)
traced-in (Traced l) run e = ap Traced (some-same l run e)
traced-in (Going r) run e = absurd (cc e)

module _ (renamed : RenamedLaw) (session m : Situation) (h : IsIn session m) where
  module _ (r : Record) (ready : IsReady m.state) (call : Call) (called : m.state.call ≡ Some call) (fits : Fits m.code m.state.inputs call.function call.args) where
    replays-in : (a : Repaired) → m.past ≡ Traced a → Replays m.code m.state.inputs call.function call.args a.items
    replays-in a e =
        let t : IsPastIn m.code m.state (Some call) m.past = subst (λ o. IsPastIn m.code m.state o m.past) called h.sound.past in
        (subst (IsPastIn m.code m.state (Some call)) e t).replays

    by-trace : (a b : Repaired) → RenamedRepair (Some a) (Some b) → m.past ≡ Traced a → IsRecordOf m.code m.state.inputs call b.items r → IsRecorded m r
    by-trace a b (RenamedRepair.some ps one alike work) e is = record {
      ready = ready;
      call = call;
      called = called;
      run = a;
      traced = ap trace_in_past e;
      of = record { fits = fits; replays = replays-in a e };
      is = renamed m.code m.state.inputs call ps a.items b.items r one alike is;
    }

  recorded-in : (r : Record) → IsRecorded session r → IsRecorded m r
  recorded-in r k =
      let called : m.state.call ≡ Some k.call = ap (λ (x : State). x.call) (sym h.state) ∙ k.called in
      let there : session.code ≡ m.code = h.code in
      let of : IsTraceOf m.code m.state.inputs k.call k.run.items =
      subst (λ c. IsTraceOf c m.state.inputs k.call k.run.items) there (subst (λ (x : State). IsTraceOf session.code x.inputs k.call k.run.items) h.state k.of) in
      let is : IsRecordOf m.code m.state.inputs k.call k.run.items r =
      subst (λ c. IsRecordOf c m.state.inputs k.call k.run.items r) there (subst (λ (x : State). IsRecordOf session.code x.inputs k.call k.run.items r) h.state k.is) in
      let same : SamePast m.code m.state.inputs k.call.function k.call.args m.past session.past = subst (λ o. IsSamePast m.code m.state.inputs o m.past session.past) called h.past in
      let g = same-traced same k.run (traced-in session.past k.run k.traced) in
      by-trace r (subst IsReady h.state k.ready) k.call called of.fits g.run k.run g.renamed g.is is

pub saved-law : RenamedLaw → SavedLaw
saved-law renamed session m s h k = record {
  fuel = k.fuel ∙ ap (λ (x : State). x.fuel) h.state;
  work = k.work ∙ sym (is-work m.code m.state.inputs m.state.call m.past session.past h.past);
  bound = k.bound ∙ h.bound;
  names = k.names ∙ ap (λ (x : State). x.names) h.state;
  kept = recorded-in renamed session m h s.kept k.kept;
}

one-recorded : OneRecordLaw → (m : Situation) (r q : Record) → IsRecorded m r → IsRecorded m q → r ≡ q
one-recorded one m r q h k =
    let call : h.call ≡ k.call = some-same h.call k.call (sym h.called ∙ k.called) in
    let run : h.run ≡ k.run = some-same h.run k.run (sym h.traced ∙ k.traced) in
    one m.code m.state.inputs k.call k.run.items r q
    (subst (λ (x : Repaired). IsRecordOf m.code m.state.inputs k.call x.items r) run (subst (λ c. IsRecordOf m.code m.state.inputs c h.run.items r) call h.is)) k.is

pub one-saved : OneRecordLaw → OneSavedLaw
one-saved one m s t h k =
    same-save s t (h.fuel ∙ sym k.fuel) (h.work ∙ sym k.work) (h.bound ∙ sym k.bound) (h.names ∙ sym k.names) (one-recorded one m s.kept t.kept h.kept k.kept)
