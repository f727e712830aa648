-- How a session keeps its state: inputs, call and run are an engine's, whose code is that of the program; a
-- journal has the edits since the last run or propagate that was completed.
use Rattle.std.specs.Prelude.{◌≡◌, ℕ, ◌≤◌, Bool, true, false, Option, Some, None, IfSome, List, [], length, ⊤}
use Rattle.ceal_base.specs.Block.{Block}
use Rattle.ceal_base.specs.Trace.{Trace, steps_of}
use Rattle.ceal_base.specs.declared.call.Call.{Call}
use Rattle.ceal_base.specs.declared.typed.Typed.{Typed}
use Rattle.ceal_code.specs.Fitting.{Fits}
use Rattle.ceal_code.specs.Program.{Code}
use Rattle.ceal_code.specs.Replay.{Replays, IsHonest}
use Rattle.ceal_compile.specs.Compiled.{IsCompiled}
use Rattle.ceal_cost.specs.Bounds.{first_cost}
use Rattle.ceal_engine.specs.Engine.{EngineState, IsWhole, trace, has_run}
use Rattle.ceal_engine.specs.Partial.{carried_by}
use Rattle.ceal_engine.specs.declared.phase.Phase.{Phase}
use Rattle.ceal_engine.specs.declared.phase.Phase.TheVariants.{New, Finished, Pending, Partial, Dropped}
use Rattle.ceal_theory.specs.Adjust.{Extended}
use Rattle.ceal_theory.specs.Computed.{Repaired, first_of}
use Rattle.ceal_theory.specs.Pasts.{Past, NoTrace, Traced, Going}
use Rattle.ceal_session.specs.Journal.{Measure, Number, Between, JournalState}
use Rattle.ceal_session.specs.InputNames.{AreSpelled}
use Rattle.ceal_session.specs.State.{State, Situation}
use Rattle.ceal_session.specs.UndoneEdits.{undone, AreWithin}

abbrev pub is_dropped : Phase → Bool
is_dropped New = false
is_dropped Finished = false
is_dropped Pending = false
is_dropped Partial = false
is_dropped Dropped = true

-- the trace of a run, with its work
abbrev pub traced_by : EngineState → Option Trace → Past
traced_by e None = NoTrace
traced_by e (Some l) = Traced (record { items = l; work = e.work })

-- The repair in progress: it has the words of the heap.
abbrev pub going_by : EngineState → Option Trace → Past
going_by e None = NoTrace
going_by e (Some l) = Going (carried_by e l)

abbrev pub past_by : Phase → EngineState → Past
past_by New e = traced_by e (trace e)
past_by Finished e = traced_by e (trace e)
past_by Pending e = traced_by e (trace e)
past_by Partial e = going_by e (trace e)
past_by Dropped e = traced_by e (trace e)

-- what the engine has of runs
abbrev pub past_of : EngineState → Past
past_of e = past_by e.phase e

-- the cost of the first traces of the call, if there is one, side by side
abbrev pub call_cost : Code → ℕ → List Block → List Block → Option Call → ℕ
call_cost code fuel old new None = 0
call_cost code fuel old new (Some call) = first_cost code fuel old new call.function call.args

-- a bound, where the last completion left these inputs
abbrev pub bound_from : EngineState → List Block → Measure → ℕ
bound_from e settled (Number n) = n
bound_from e settled (Between edits) = call_cost e.code e.fuel (undone edits settled) settled e.call

-- the inputs with the bases of the last run or propagate that was completed
abbrev pub settled_of : EngineState → JournalState → List Block
settled_of e j = undone j.since e.inputs

abbrev pub state_of : Typed → List (List ℕ) → EngineState → JournalState → Bool → State
state_of program names e j pending = record {
  program = program;
  fuel = e.fuel;
  names = names;
  inputs = e.inputs;
  settled = settled_of e j;
  call = e.call;
  out_of_fuel = is_dropped e.phase;
  pending = pending;
}

abbrev pub situation_of : Typed → List (List ℕ) → EngineState → JournalState → Bool → Situation
situation_of program names e j pending = record {
  state = state_of program names e j pending;
  code = e.code;
  past = past_of e;
  bound = bound_from e (settled_of e j) j.measure;
}

-- What a session holds, as contracts see it: the state, and the engine and the journal of which the rest is made.
pub record Held : Type 0 where
  pub state : State
  pub engine : EngineState
  pub journal : JournalState

abbrev pub held_of : Typed → List (List ℕ) → EngineState → JournalState → Bool → Held
held_of program names e j pending = record { state = state_of program names e j pending; engine = e; journal = j }

-- the situation that a session is in by what it holds
abbrev pub situation : Held → Situation
situation k = record {
  state = k.state;
  code = k.engine.code;
  past = past_of k.engine;
  bound = bound_from k.engine k.state.settled k.journal.measure;
}

-- What a session holds belongs together: the state has the engine's fuel, inputs and call, and is out of fuel where the
-- engine has dropped its run; an edit or a repair is pending where the engine's phase says so.
pub record IsTied (k : Held) : Type 0 where
  pub fuel : k.state.fuel ≡ k.engine.fuel
  pub inputs : k.state.inputs ≡ k.engine.inputs
  pub call : k.state.call ≡ k.engine.call
  pub out_of_fuel : k.state.out_of_fuel ≡ is_dropped k.engine.phase
  pub done : k.engine.phase ≡ Finished → k.state.pending ≡ false
  pub edited : k.engine.phase ≡ Pending → k.state.pending ≡ true
  pub partial : k.engine.phase ≡ Partial → k.state.pending ≡ true

-- The call may be run on these inputs, and its run ends there within the fuel.
pub record IsRunOn (e : EngineState) (inputs : List Block) (call : Call) : Type 0 where
  pub fits : Fits e.code inputs call.function call.args
  pub first : Repaired
  pub is : first_of e.code inputs e.fuel call.function call.args ≡ Some first

-- What a bound is made of is there: the edits are those of inputs, and both runs end.
abbrev pub IsMeasured : EngineState → List Block → Measure → Type 0
IsMeasured e settled (Number n) = ⊤
IsMeasured e settled (Between edits) =
    AreWithin (length settled) edits
    × IfSome e.call (λ call. IsRunOn e (undone edits settled) call × IsRunOn e settled call)

-- The run ends on the settled inputs, and the present ones are these but for bases.
pub record IsSettledOn (e : EngineState) (settled : List Block) (call : Call) : Type 0 where
  pub run : IsRunOn e settled call
  pub extended : Extended e.code settled e.inputs

-- The trace was an honest one of the call on the settled inputs, with no more steps than a run may take.
pub record WasHonest (e : EngineState) (settled : List Block) (call : Call) (l : Trace) : Type 0 where
  pub replays : Replays e.code settled call.function call.args l
  pub honest : IsHonest e.code settled l
  pub few : steps_of l ≤ e.fuel

-- what is true of every session inside
pub record SessionInvariant
    (program : Typed) (names : List (List ℕ)) (e : EngineState) (j : JournalState) (pending : Bool) : Type 0 where
  pub compiled : IsCompiled (record { typed = program; code = e.code })
  pub named : length names ≡ length e.inputs
  pub spelled : AreSpelled names
  -- an edit or a repair is pending in Pending and in Partial, and not in Finished
  pub done : e.phase ≡ Finished → pending ≡ false
  pub edited : e.phase ≡ Pending → pending ≡ true
  pub partial : e.phase ≡ Partial → pending ≡ true
  -- in Finished nothing was edited since
  pub present : e.phase ≡ Finished → j.since ≡ []
  pub within : AreWithin (length e.inputs) j.since
  pub settled : has_run e.phase ≡ true → IfSome e.call (IsSettledOn e (settled_of e j))
  pub was : IsWhole e.phase → IfSome e.call (λ call. IfSome (trace e) (WasHonest e (settled_of e j) call))
  pub measured : IsMeasured e (settled_of e j) j.measure
