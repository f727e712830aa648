-- What runs and propagates leave, by change propagation over the program's code: traces and their work, repairs in
-- progress, and the bound of a work.
use Rattle.std.specs.Prelude.{ℕ, Option, Some, None, Result, Ok, Err, if◌then◌else◌}
use Rattle.ceal_base.specs.Trace.{steps_of}
use Rattle.ceal_base.specs.declared.call.Call.{Call}
use Rattle.ceal_code.specs.Program.{Code}
use Rattle.ceal_cost.specs.Bounds.{first_cost}
use Rattle.ceal_script.specs.declared.command.Command.{Command}
use Rattle.ceal_theory.specs.Computed.{Repaired, first_of}
use Rattle.ceal_theory.specs.Pasts.{Past, past_after, slice_of, next_repair}
use Rattle.ceal_theory.specs.Slices.{Repair, is_done}
use Rattle.ceal_session.specs.State.{State, Situation}
use Rattle.ceal_session.specs.Steps.{call_of, reads_of}
use Rattle.ceal_session.specs.declared.refusal.Refusal.{Refusal}
use Rattle.ceal_session.specs.declared.refusal.Refusal.TheVariants.{C1}

-- the call of a line that runs, or why it runs none
abbrev pub call_in : State → Option Command → Result Call Refusal
call_in s None = Err C1
call_in s (Some command) = call_of s command

-- how many stale reads the line re-executes at most, where it says so
abbrev pub reads_in : Option Command → Option ℕ
reads_in None = None
reads_in (Some command) = reads_of command

-- the first trace of a call on the inputs of this moment
abbrev pub first_trace : Code → State → Call → Option Repaired
first_trace code s call = first_of code s.inputs s.fuel call.function call.args

-- What the line leaves: what there was before it, where it runs no call. Else a slice of the repair that is pending, or
-- of a new one of the trace, which is in progress or done. Where there is no trace, or the steps that were re-executed
-- are more than the fuel, it is the first trace; and it is nothing where the run from scratch is out of fuel.
abbrev pub past_left : Code → State → Result Call Refusal → Option ℕ → Past → Past
past_left code s (Err r) reads past = past
past_left code s (Ok call) reads past = past_after code s.inputs s.fuel (first_trace code s call) reads past

-- the steps of a first trace
abbrev pub steps_in_first : Option Repaired → ℕ
steps_in_first None = 0
steps_in_first (Some a) = steps_of a.items

-- The bound, by the slice: where there is none the trace is a first one, each of whose steps is work. Where
-- the repair is done it is the cost of the first trace on the present inputs beside the first trace on the
-- settled ones; where it is in progress, it stays what it was.
abbrev pub bound_by : Code → State → Call → Option Repaired → Option Repair → ℕ → ℕ
bound_by code s call first None bound = steps_in_first first
bound_by code s call None (Some r) bound = if is_done code s.inputs r then 0 else bound
bound_by code s call (Some a) (Some r) bound =
    if is_done code s.inputs r then first_cost code s.fuel s.settled s.inputs call.function call.args else bound

-- the bound after a line that begins with this past
abbrev pub bound_left : Code → State → Result Call Refusal → Option ℕ → Past → ℕ → ℕ
bound_left code s (Err r) reads past bound = bound
bound_left code s (Ok call) reads past bound =
    bound_by code s call (first_trace code s call)
    (slice_of code s.inputs s.fuel reads (next_repair code s.inputs past)) bound

-- what the line of a command, or of none, leaves in a situation
abbrev pub past_in : Situation → Option Command → Past
past_in m command = past_left m.code m.state (call_in m.state command) (reads_in command) m.past

abbrev pub bound_in : Situation → Option Command → ℕ
bound_in m command = bound_left m.code m.state (call_in m.state command) (reads_in command) m.past m.bound
