-- The save of a session, and a session that continues from one.
use Rattle.std.specs.Prelude.{◌≡◌, ◌≤◌, false, Some, length}
use Rattle.ceal_base.specs.Trace.{Trace, flat, steps_in}
use Rattle.ceal_base.specs.declared.typed.Typed.{Typed}
use Rattle.ceal_code.specs.Program.{Code}
use Rattle.ceal_compile.specs.declared.program.Program.{Program}
use Rattle.ceal_snap.specs.SaveText.{Save}
use Rattle.ceal_theory.specs.Pasts.{Traced}
use Rattle.ceal_traceck.specs.Verdicts.{Means}
use Rattle.ceal_traceck.specs.declared.verdict.Verdict.TheVariants.{Yes}
use Rattle.ceal_session.specs.AfterLine.{IsAllowed}
use Rattle.ceal_session.specs.InputNames.{AreSpelled, AreDistinct}
use Rattle.ceal_session.specs.RunRecord.{IsRecorded}
use Rattle.ceal_session.specs.Consistency.{IsIn}
use Rattle.ceal_session.specs.State.{State, Situation, numbers_in}

-- The save is that of the session: its fuel, its numbers, its names, and the record of its run.
pub record IsSaved (m : Situation) (s : Save) : Type 0 where
  pub fuel : s.fuel ≡ m.state.fuel
  pub work : s.work ≡ (numbers_in m).work
  pub bound : s.bound ≡ m.bound
  pub names : s.names ≡ m.state.names
  pub kept : IsRecorded m s.kept

-- The save holds: a session may have that fuel, each input has a name, no name occurs twice, and the checker
-- says yes to the record, whose run is in the fuel.
pub record SaveHolds (code : Code) (s : Save) : Type 0 where
  pub fuel : IsAllowed s.fuel
  pub spelled : AreSpelled s.names
  pub once : AreDistinct s.names
  pub count : length s.names ≡ length s.kept.inputs
  pub yes : Means code s.kept Yes
  pub few : steps_in s.kept.forest ≤ s.fuel

-- the state of a save: the run is completed, and nothing is pending
abbrev pub saved_state : Typed → Save → State
saved_state program s = record {
  program = program;
  fuel = s.fuel;
  names = s.names;
  inputs = s.kept.inputs;
  settled = s.kept.inputs;
  call = Some (record { function = s.kept.function; args = s.kept.args });
  out_of_fuel = false;
  pending = false;
}

-- the situation of a save, whose items are those of this trace, with its numbers
abbrev pub situation_of_save : Typed → Code → Save → Trace → Situation
situation_of_save program code s items = record {
  state = saved_state program s;
  code = code;
  past = Traced (record { items = items; work = s.work });
  bound = s.bound;
}

-- A session that continues from the save is in its situation.
pub record IsResumed (program : Program) (s : Save) (session : Situation) : Type 0 where
  pub trace : Trace
  pub items : s.kept.forest ≡ flat trace
  pub is_in : IsIn session (situation_of_save program.typed program.code s trace)
