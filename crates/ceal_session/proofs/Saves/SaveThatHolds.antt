-- A save that holds: its trace, its situation, and a session whose engine has run its call again.
use Rattle.std.proofs.Common.{◌≡◌, ◌≤◌, true, false, Option, Some, None, List, length, refl, sym, ap, ◌∙◌, subst, arith}
use Rattle.std.specs.Option.{IsSomeAnd}
use Rattle.std.specs.Prelude.{IfSome}
use Rattle.ceal_base.proofs.TraceLemmas.{steps-flat}
use Rattle.ceal_base.specs.Fitting.{inputs_fit}
use Rattle.ceal_base.specs.Trace.{Trace, flat, steps_in, steps_of}
use Rattle.ceal_base.specs.declared.call.Call.{Call}
use Rattle.ceal_base.specs.declared.typed.StructInfo.{StructInfo}
use Rattle.ceal_code.specs.Fitting.{Fits}
use Rattle.ceal_code.specs.Program.{Code}
use Rattle.ceal_code.specs.Replay.{Replays}
use Rattle.ceal_compile.specs.Compiled.{IsCompiled}
use Rattle.ceal_compile.specs.declared.program.Program.{Program}
use Rattle.ceal_engine.specs.Engine.{EngineState, IsEngine, IsPresent, IsTraced, ReplaysCall, trace, fresh_call, has_run, is_whole}
use Rattle.ceal_engine.specs.Repaired.{IsRestorable, IsRestored}
use Rattle.ceal_engine.specs.declared.phase.Phase.TheVariants.{Finished}
use Rattle.ceal_session.proofs.Moves.StateAfterRun.{fits-of}
use Rattle.ceal_session.proofs.Engine.EngineKeepsPast.{past-traced, some-trace}
use Rattle.ceal_session.proofs.Engine.ProgramAndCode.{call-back, same-structs}
use Rattle.ceal_session.proofs.Inputs.ExtendedInputs.{extended-same}
use Rattle.ceal_session.proofs.Engine.RunLeavesPast.{few-steps, has-first}
use Rattle.ceal_session.specs.Journal.{journal_of_bound}
use Rattle.ceal_session.specs.SessionState.{situation_of, IsSettledOn, WasHonest, SessionInvariant}
use Rattle.ceal_session.specs.InputNames.{HaveKnownShapes}
use Rattle.ceal_session.specs.SaveLaws.{HeldLaw}
use Rattle.ceal_session.specs.SessionSave.{SaveHolds, IsResumed, saved_state}
use Rattle.ceal_snap.specs.SaveText.{Save}
use Rattle.ceal_theory.specs.Laws.{RenamedRepair}
use Rattle.ceal_theory.specs.Pasts.{Past, Traced, SamePast}

module _ (code : Code) (s : Save) (h : SaveHolds code s) where
  abbrev l : Trace
  l = h.yes.1.0

  items : s.kept.forest ≡ flat l
  items = h.yes.1.1.items

  few : steps_of l ≤ s.fuel
  few = subst (λ n. n ≤ s.fuel) (ap steps_in items ∙ steps-flat l) h.few

  -- an engine may continue from it
  pub restorable : IsRestorable code s.fuel s.kept.inputs s.kept.function s.kept.args s.kept.forest
  restorable = record {
    trace = l;
    flat_form = items;
    fits = h.yes.0.call;
    replays = h.yes.1.1.replays;
    honest = h.yes.1.2;
    few = few;
  }

pub held : HeldLaw
held program s compiled h =
    let code = program.code in
    let structs : code.structs ≡ program.typed.structs = same-structs program.typed code compiled.code in
    let fits : Fits code s.kept.inputs s.kept.function s.kept.args = h.yes.0.call in (
      h.yes.1.0,
      items code s h,
      record {
        compiled = compiled;
        named = h.count;
        spelled = h.spelled;
        once = h.once;
        shapes = subst (λ (x : List StructInfo). HaveKnownShapes x s.kept.inputs) structs h.yes.0.shapes;
        fits = subst (λ (x : List StructInfo). inputs_fit x s.kept.inputs ≡ true) structs fits.blocks;
        settled = record { fits = fits.blocks; extended = extended-same code s.kept.inputs; count = refl };
        called = call-back program.typed code compiled.code (saved_state program.typed s) s.kept.function s.kept.args refl fits;
        past = record {
          within = refl;
          replays = h.yes.1.1.replays;
          was = h.yes.1.1.replays;
          honest = h.yes.1.2;
          few = few code s h;
          same = λ p. refl;
        };
      },
    )

module _ (program : Program) (s : Save) (compiled : IsCompiled program) (h : SaveHolds program.code s) (e : EngineState) (k : IsEngine e)
    (code : e.code ≡ program.code) (fuel : e.fuel ≡ s.fuel) (inputs : e.inputs ≡ s.kept.inputs)
    (called : e.call ≡ Some (record { function = s.kept.function; args = s.kept.args })) (phase : e.phase ≡ Finished) where
  abbrev call : Call
  call = record { function = s.kept.function; args = s.kept.args }

  present : IsPresent e
  present = k.present phase

  fits : Fits e.code e.inputs call.function call.args
  fits = fits-of e k call called

  here : (P : Call → Type 0) → P call → IfSome e.call P
  here P x = subst (λ o. IfSome o P) (sym called) x

  settled : IsSettledOn e e.inputs call
  settled =
      let f = has-first e.code e.inputs call.function call.args fits e.fuel present.run (subst (λ o. fresh_call e.code e.inputs e.fuel o ≡ Some present.run) called present.fresh) in
      record { run = record { fits = fits; first = f.first; is = f.is }; extended = extended-same e.code e.inputs }

  honest : (o : Option Trace) → IfSome o (IsTraced e) → IfSome o (ReplaysCall e) → IfSome o (WasHonest e e.inputs call)
  honest None t r = tt
  honest (Some l) t r =
      let replays : Replays e.code e.inputs call.function call.args l = subst (λ o. IfSome o (λ c. Replays e.code e.inputs c.function c.args l)) called r in
      record {
        replays = replays;
        honest = t.honest;
        few = few-steps e.code e.inputs call.function call.args fits e.fuel l replays t.honest present.run
            (subst (λ o. fresh_call e.code e.inputs e.fuel o ≡ Some present.run) called present.fresh);
      }

  pub restored-holds : SessionInvariant program.typed s.names e (journal_of_bound s.bound) false
  restored-holds = record {
    compiled = rw code compiled;
    named = h.count ∙ ap length (sym inputs);
    spelled = h.spelled;
    done = λ i. refl;
    edited = λ i. absurd (grind (arith, phase, i));
    partial = λ i. absurd (grind (arith, phase, i));
    present = λ i. refl;
    within = tt;
    settled = λ i. here (IsSettledOn e e.inputs) settled;
    was = λ i. here (λ call. IfSome (trace e) (WasHonest e e.inputs call)) (honest (trace e) (k.traced phase) (k.replays (ap is_whole phase)));
    measured = tt;
  }

  pub restored-is : e.work ≡ s.work → IsSomeAnd (trace e) (IsRestored s.kept.forest) → IsResumed program s (situation_of program.typed s.names e (journal_of_bound s.bound) false)
  restored-is work forest =
      let t = held program s compiled h in
      let m = some-trace (trace e) (k.kept ∙ ap has_run phase) in
      let r = (subst (λ o. IsSomeAnd o (IsRestored s.kept.forest)) m.1 forest) t.0 t.1 in
      record {
        trace = t.0;
        items = t.1;
        is_in = record {
          state = rw (fuel, inputs, called, phase) refl;
          code = code;
          bound = refl;
          sound = t.2;
          past = subst (λ (q : Past). SamePast program.code s.kept.inputs s.kept.function s.kept.args (Traced (record { items = t.0; work = s.work })) q)
              (sym (past-traced e m.0 (ap is_whole phase) m.1))
              (SamePast.traced (RenamedRepair.some r.pairs r.one r.alike (sym work)));
        };
      }
