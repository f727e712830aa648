-- What a session has after a line.
use Rattle.std.specs.Prelude.{◌≡◌, ◌⊎◌, ℕ, ◌≤◌, true, Option, Some, None, IfSome, Result, Ok, Err, List}
use Rattle.ceal_base.specs.Trace.{steps_of}
use Rattle.ceal_base.specs.declared.call.Call.{Call}
use Rattle.ceal_compile.specs.declared.program.Program.{Program}
use Rattle.ceal_engine.specs.Engine.{InLimits}
use Rattle.ceal_script.specs.Lines.{IsLineOf}
use Rattle.ceal_script.specs.declared.command.Command.{Command}
use Rattle.ceal_theory.specs.Pasts.{Past, NoTrace, SamePast, IsPastOf}
use Rattle.ceal_session.specs.Replies.{Reads, situation_without_run}
use Rattle.ceal_session.specs.Runs.{state_at_start, with_run}
use Rattle.ceal_session.specs.State.{Situation, last}
use Rattle.ceal_session.specs.Steps.{call_of}
use Rattle.ceal_session.specs.Works.{call_in, reads_in, past_left, bound_left}
use Rattle.ceal_session.specs.declared.refusal.Refusal.{Refusal}

-- the steps that a run of a session may be allowed
abbrev pub IsAllowed : ℕ → Type 0
IsAllowed fuel = InLimits fuel

-- a session that begins
abbrev pub situation_at_start : Program → ℕ → Situation
situation_at_start p fuel = situation_without_run p.code (state_at_start p.typed fuel)

-- the code, what there was of runs, and the bound stay
pub record KeepsRuns (m n : Situation) : Type 0 where
  pub code : n.code ≡ m.code
  pub past : n.past ≡ m.past
  pub bound : n.bound ≡ m.bound

-- Of each past of the call that the session had up to the numbers of core blocks, the session has what the
-- definition makes of it, up to them, and the definition's bound.
pub record RunsAsDefined (m : Situation) (call : Call) (reads : Option ℕ) (n : Situation) : Type 0 where
  pub code : n.code ≡ m.code
  pub past : (p : Past) → IsPastOf m.code m.state.inputs call.function call.args p
      → SamePast m.code m.state.inputs call.function call.args p m.past
      → SamePast m.code m.state.inputs call.function call.args (past_left m.code m.state (Ok call) reads p) n.past
  pub bound : (p : Past) → IsPastOf m.code m.state.inputs call.function call.args p
      → SamePast m.code m.state.inputs call.function call.args p m.past
      → n.bound ≡ bound_left m.code m.state (Ok call) reads p m.bound

-- which of the two it is
abbrev pub RunsOrKeeps : Situation → Result Call Refusal → Option ℕ → Situation → Type 0
RunsOrKeeps m (Err r) reads n = KeepsRuns m n
RunsOrKeeps m (Ok call) reads n = RunsAsDefined m call reads n

-- So it is after the line.
pub record IsAfterLine (m : Situation) (line : List ℕ) (n : Situation) : Type 0 where
  pub command : Option Command
  pub reads : Reads line command
  pub goes : RunsOrKeeps m (call_in m.state command) (reads_in command) n

-- After a `propagate` that repaired a trace, the work is at most the bound, and that is at most the steps of
-- the run. Of a repair in parts nothing is said.
abbrev pub IsBounded : Situation → Result Call Refusal → Option ℕ → Situation → Type 0
IsBounded m (Err r) reads n = Unit {0}
IsBounded m (Ok call) (Some reads) n = Unit {0}
IsBounded m (Ok call) None n =
    IfSome (last m) (λ l. IfSome (last n) (λ a. (a.work ≤ n.bound) × (n.bound ≤ steps_of a.items)))

pub record Bounds (m : Situation) (line : List ℕ) (n : Situation) : Type 0 where
  pub command : Option Command
  pub reads : Reads line command
  pub bounded : IsBounded m (call_in m.state command) (reads_in command) n

-- what is left of a session after out of fuel
abbrev pub situation_out_of_fuel : Situation → Call → Situation
situation_out_of_fuel m call = record m { state = with_run m.state call true; past = NoTrace; bound = 0 }

-- The line is an accepted `run` or `propagate`, whole or in part, and the session is as after out of fuel.
pub record DropsRun (m : Situation) (line : List ℕ) (n : Situation) : Type 0 where
  pub command : Command
  pub reads : IsLineOf command line
  pub call : Call
  pub runs : call_of m.state command ≡ Ok call
  pub left : n ≡ situation_out_of_fuel m call

-- what is left of a session where there was no memory for the answer
abbrev pub IsAfterNoMemory : Situation → List ℕ → Situation → Type 0
IsAfterNoMemory m line n = (n ≡ m) ⊎ DropsRun m line n

-- The same, where `called` is the call of the line, if it is one that runs.
abbrev pub IsAfterNoMemoryOf : Situation → Result Call Refusal → Situation → Type 0
IsAfterNoMemoryOf m called n = (n ≡ m) ⊎ ((call : Call) × (called ≡ Ok call) × (n ≡ situation_out_of_fuel m call))
