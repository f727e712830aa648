-- A session that begins, and the run from scratch at each moment of it.
use Rattle.std.specs.Prelude.{ℕ, Bool, true, false, Option, Some, None, []}
use Rattle.ceal_base.specs.Block.{Blocks, alone}
use Rattle.ceal_base.specs.Finished.{Finished}
use Rattle.ceal_base.specs.declared.typed.Typed.{Typed}
use Rattle.ceal_mean.specs.Fresh.{fresh}
use Rattle.ceal_base.specs.declared.call.Call.{Call}
use Rattle.ceal_session.specs.State.{State}

-- no inputs, and no run
abbrev pub state_at_start : Typed → ℕ → State
state_at_start program fuel = record {
  program = program;
  fuel = fuel;
  names = [];
  inputs = [];
  settled = [];
  call = None;
  out_of_fuel = false;
  pending = false;
}

abbrev pub memory_of : State → Blocks
memory_of s = alone s.inputs

-- the run from scratch of a call on the inputs of this moment
abbrev pub run_of : State → Call → Option Finished
run_of s call = fresh s.program call.function call.args s.inputs s.fuel

abbrev pub run_of_call : State → Option Call → Option Finished
run_of_call s None = None
run_of_call s (Some call) = run_of s call

-- the run from scratch of the accepted call
abbrev pub present_run : State → Option Finished
present_run s = run_of_call s s.call

-- the state after a run or propagate, which is completed or out of fuel
abbrev pub with_run : State → Call → Bool → State
with_run s call out_of_fuel =
    record s { settled = s.inputs; call = Some call; out_of_fuel = out_of_fuel; pending = false }

-- the state after a part of a repair in progress
abbrev pub with_part : State → State
with_part s = record s { out_of_fuel = false; pending = true }
