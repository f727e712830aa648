-- A session that begins.
use Rattle.std.proofs.Common.{◌≡◌, ℕ, false, None, [], length, refl, sym, ap, arith}
use Rattle.ceal_code.specs.Program.{Code}
use Rattle.ceal_compile.specs.Compiled.{IsCompiled}
use Rattle.ceal_compile.specs.declared.program.Program.{Program}
use Rattle.ceal_engine.specs.Engine.{EngineState, IsEngine, has_run, is_whole}
use Rattle.ceal_engine.specs.declared.phase.Phase.TheVariants.{New}
use Rattle.ceal_session.proofs.Engine.EngineKeepsPast.{past-none}
use Rattle.ceal_session.specs.AfterLine.{situation_at_start}
use Rattle.ceal_session.specs.Journal.{journal_at_start as empty}
use Rattle.ceal_session.specs.SessionState.{situation_of, SessionInvariant}
use Rattle.ceal_session.specs.Runs.{state_at_start}
use Rattle.ceal_session.specs.State.{State}
use Rattle.ceal_theory.specs.Pasts.{Past, NoTrace}

module _ (program : Program) (e : EngineState) (code : e.code ≡ program.code) (inputs : e.inputs ≡ []) (phase : e.phase ≡ New) where
  pub begun-holds : IsCompiled program → SessionInvariant program.typed [] e empty false
  begun-holds compiled = record {
    compiled = rw code compiled;
    named = ap length (sym inputs);
    spelled = tt;
    done = λ i. refl;
    edited = λ i. absurd (grind (arith, phase, i));
    partial = λ i. absurd (grind (arith, phase, i));
    present = λ i. refl;
    within = tt;
    settled = λ i. absurd (let r = ap has_run phase in grind (arith, r, i));
    was = λ i. absurd (let w = ap is_whole phase in grind (arith, w, i));
    measured = tt;
  }

  same-opened : {s : State} {c : Code} {q : Past} (fuel : ℕ) → s ≡ state_at_start program.typed fuel → c ≡ program.code → q ≡ NoTrace
      → record { state = s; code = c; past = q; bound = 0 } ≡ situation_at_start program fuel
  same-opened fuel i j k = rw (i, j, k) refl

  pub begun-is : IsEngine e → (fuel : ℕ) → e.fuel ≡ fuel → e.call ≡ None → situation_of program.typed [] e empty false ≡ situation_at_start program fuel
  begun-is k fuel f call = same-opened fuel (rw (f, inputs, call, phase) refl) code (past-none e k (ap has_run phase))
