-- The situation after the script of an input, whose program is compiled.
use Rattle.std.proofs.Common.{◌≡◌, ℕ, Bool, true, false, if◌then◌else◌, Option, Some, None, IfSome, List, refl, sym, ap, subst}
use Rattle.ceal_base.specs.Fitting.{inputs_fit}
use Rattle.ceal_base.specs.declared.call.Call.{Call}
use Rattle.ceal_base.specs.declared.recorded.Record.{Record}
use Rattle.ceal_base.specs.declared.typed.Typed.{Typed}
use Rattle.ceal_code.specs.Fitting.{Fits}
use Rattle.ceal_code.specs.Program.{Code}
use Rattle.ceal_compile.specs.Compiled.{IsCompiled}
use Rattle.ceal_compile.specs.Laws.{OneCodeLaw, SomeCompiledLaw}
use Rattle.ceal_compile.specs.Source.{IsProgram}
use Rattle.ceal_compile.specs.declared.program.Program.{Program}
use Rattle.ceal_lex.specs.declared.parts.Split.{Split}
use Rattle.ceal_session.proofs.Engine.ProgramAndCode.{call-fits, same-structs}
use Rattle.ceal_session.specs.Questions.{IsReady}
use Rattle.ceal_session.specs.AfterLine.{IsAllowed, situation_at_start}
use Rattle.ceal_session.specs.Laws.{BegunLaw, OneScriptLaw, SomeScriptLaw}
use Rattle.ceal_session.specs.RunRecord.{IsRecorded}
use Rattle.ceal_session.specs.Runs.{state_at_start}
use Rattle.ceal_session.specs.SaveLaws.{ResumesAs, ResumedLaw}
use Rattle.ceal_session.specs.SessionSave.{IsSaved}
use Rattle.ceal_session.specs.Consistency.{IsPastIn, IsConsistent}
use Rattle.ceal_session.specs.State.{State, Situation, trace_in_past}
use Rattle.ceal_session.specs.Steps.{IsCall, reply_to_query, has_no_run}
use Rattle.ceal_session.specs.declared.refusal.Refusal.TheVariants.{C7, C8}
use Rattle.ceal_session.specs.declared.reply.Query.TheVariants.{Steps}
use Rattle.ceal_session.specs.declared.reply.Reply.TheVariants.{Refused, Told}
use Rattle.ceal_theory.specs.Pasts.{Past, NoTrace, Traced, Going}
use Rattle.ceal_cli.specs.Dumps.{IsRecordIn}
use Rattle.ceal_cli.specs.Output.{Programmed, lines_after_mark}
use Rattle.ceal_cli.specs.ReadBack.{IsRunAfter}
use Rattle.ceal_cli.specs.Saves.{save_of}
use Rattle.ceal_cli.proofs.Sessions.LinesKeepProgram.{leads-kept}
use Rattle.ceal_cli.proofs.Inputs.OneReading.{SplitLaw, AnswerLaw, one-reading, read-again}

-- what is known of programs and of scripts
pub record Known : Type 0 where
  pub split : SplitLaw
  pub answer : AnswerLaw
  pub code : OneCodeLaw
  pub compiled : SomeCompiledLaw
  pub begins : BegunLaw
  pub scripts : SomeScriptLaw
  pub once : OneScriptLaw
  pub resumes : ResumedLaw

-- a line `steps` is answered exactly when there is a finished run
ready-of : (s : State) → reply_to_query s Steps ≡ Told Steps → IsReady s
ready-of s told = go (has_no_run s) refl s.pending refl told
  where
    go : (a : Bool) → has_no_run s ≡ a → (b : Bool) → s.pending ≡ b → (if a then Refused C7 else if b then Refused C8 else Told Steps) ≡ Told Steps → IsReady s
    go true i b j e = absurd (cc e)
    go false i true j e = absurd (cc e)
    go false i false j e = record { run = i; edited = j }

-- and then the record of the trace is that of the run
module _ (m : Situation) (st : IsConsistent m) where
  in-record : (r : Record) → IsReady m.state → (c : Option Call) → m.state.call ≡ c → (p : Past) → m.past ≡ p → IsRecordIn m c (trace_in_past p) r → IsRecorded m r
  in-record r ready None e p f is = absurd is
  in-record r ready (Some call) e NoTrace f is = absurd is
  in-record r ready (Some call) e (Going x) f is = absurd is
  in-record r ready (Some call) e (Traced l) f is =
      let there : IsPastIn m.code m.state (Some call) (Traced l) =
      subst (λ q. IsPastIn m.code m.state (Some call) q) f (subst (λ o. IsPastIn m.code m.state o m.past) e st.past) in
      let called : IsCall m.state call = subst (λ o. IfSome o (IsCall m.state)) e st.called in
      let structs = same-structs m.state.program m.code st.compiled.code in
      let fits : Fits m.code m.state.inputs call.function call.args =
      call-fits m.state.program m.code st.compiled.code st.compiled.valid m.state call.function call.args refl
      (subst (λ k. inputs_fit k m.state.inputs ≡ true) (sym structs) st.fits) called in
      record { ready = ready; call = call; called = e; run = l; traced = ap trace_in_past f; of = record { fits = fits; replays = there.replays }; is = is }

module _ (known : Known) (input : List ℕ) (p : Programmed input) where
  -- the program, compiled
  pub compiled : (q : Program) × IsProgram input q.typed × IsCompiled q
  compiled = known.compiled input (p.program, p.reads)

  abbrev pub here : Programmed input
  here = record { part = p.part; split = p.split; program = compiled.0.typed; reads = compiled.1; code = compiled.0.code; is_code = compiled.2.code }

  -- what is true of the program is true of the compiled one
  pub as-compiled : (P : Split → Typed → Code → Type 0) → P p.part p.program p.code → P p.part compiled.0.typed compiled.0.code
  as-compiled P h = read-again P input p here (one-reading known.split known.answer known.code input p here) h

  module _ (fuel : ℕ) (m : Situation) (kept : Record) (run : IsRunAfter compiled.0.code (state_at_start compiled.0.typed fuel) (lines_after_mark p) m kept) where
    pub stands-after : IsConsistent m
    stands-after =
        let led = known.scripts (situation_at_start compiled.0 fuel) (lines_after_mark p) (known.begins compiled.0 fuel compiled.2).sound in
        subst IsConsistent (known.once (situation_at_start compiled.0 fuel) (lines_after_mark p) led.out run.replies led.end m led.leads run.leads).1 led.stands

    saved-after : IsSaved m (save_of m kept)
    saved-after = record {
      fuel = refl;
      work = refl;
      bound = refl;
      names = refl;
      kept = in-record m stands-after kept (ready-of m.state run.told) m.state.call refl m.past refl run.recorded;
    }

    pub goes-on-after : IsAllowed fuel → ResumesAs m compiled.0 (save_of m kept)
    goes-on-after allowed =
        let same = leads-kept (situation_at_start compiled.0 fuel) (lines_after_mark p) run.replies m run.leads in
        known.resumes compiled.0 m (save_of m kept) stands-after same.code same.program (subst IsAllowed (sym same.fuel) allowed) saved-after
