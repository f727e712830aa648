-- What the engine of a session makes of a call that runs, or continues a repair, and what that leaves of
-- the session.
use Rattle.std.specs.Prelude.{◌≡◌, ◌⊎◌, ℕ, Bool, true, false, Option, Some, None, is_some, Result, Ok, Err, List, ⊤}
use Rattle.ceal_base.specs.Block.{Block}
use Rattle.ceal_base.specs.declared.call.Call.{Call}
use Rattle.ceal_code.specs.Program.{Code}
use Rattle.ceal_engine.specs.Cost.{CostOfCall}
use Rattle.ceal_engine.specs.Engine.{EngineState, IsPresent, fresh_of, has_run}
use Rattle.ceal_engine.specs.declared.phase.Came.{Came}
use Rattle.ceal_engine.specs.declared.phase.Came.TheVariants.{More, Done, Anew}
use Rattle.ceal_engine.specs.declared.phase.Phase.{Phase}
use Rattle.ceal_engine.specs.declared.phase.Phase.TheVariants.{Finished, Partial, Dropped}
use Rattle.ceal_engine.specs.declared.run_error.RunError.{RunError}
use Rattle.ceal_engine.specs.declared.run_error.RunError.TheVariants.{Memory, OutOfFuel}
use Rattle.ceal_theory.specs.Computed.{first_of}
use Rattle.ceal_theory.specs.Pasts.{Past, SamePast, IsPastOf, goes, slice_of, next_repair, past_after}
use Rattle.ceal_theory.specs.Slices.{Repair, is_done}
use Rattle.ceal_session.specs.AfterLine.{RunsAsDefined, situation_out_of_fuel}
use Rattle.ceal_session.specs.Journal.{JournalState, journal_of_bound, journal_after_completion}
use Rattle.ceal_session.specs.Marks.{KeepsMarks}
use Rattle.ceal_session.specs.SessionState.{past_of}
use Rattle.ceal_session.specs.Runs.{run_of, with_run, with_part}
use Rattle.ceal_session.specs.State.{State, Situation}
use Rattle.ceal_session.specs.Steps.{run_reply}
use Rattle.ceal_session.specs.declared.reply.Reply.{Reply}
use Rattle.ceal_base.specs.declared.no_memory.NoMemory.{NoMemory}

-- the outcome of a run or a repair
abbrev pub Outcome : Type 0
Outcome = Result Came RunError

-- whether a repair is in progress
abbrev pub is_more : Outcome → Bool
is_more (Ok More) = true
is_more (Ok Done) = false
is_more (Ok Anew) = false
is_more (Err e) = false

abbrev pub phase_after_outcome : Outcome → Phase
phase_after_outcome (Ok More) = Partial
phase_after_outcome (Ok Done) = Finished
phase_after_outcome (Ok Anew) = Finished
phase_after_outcome (Err e) = Dropped

-- the journal after it, where the run has these steps
abbrev pub journal_after_outcome : ℕ → JournalState → Outcome → JournalState
journal_after_outcome steps j (Ok More) = j
journal_after_outcome steps j (Ok Done) = journal_after_completion j
journal_after_outcome steps j (Ok Anew) = journal_of_bound steps
journal_after_outcome steps j (Err e) = journal_of_bound 0

-- the reply, by the table of replies; there is none where there was no memory
abbrev pub reply_after : Option ℕ → Outcome → Result Reply NoMemory
reply_after reads (Ok c) = Ok (run_reply reads (is_more (Ok c)) false)
reply_after reads (Err OutOfFuel) = Ok (run_reply reads false true)
reply_after reads (Err Memory) = Err (record {})

-- what the definition's slice is, by the outcome of the repair
abbrev pub IsSliceOf : Outcome → Code → List Block → Option Repair → Type 0
IsSliceOf (Ok More) code inputs o = (r : Repair) × (o ≡ Some r) × (is_done code inputs r ≡ false)
IsSliceOf (Ok Done) code inputs o = (r : Repair) × (o ≡ Some r) × (is_done code inputs r ≡ true)
IsSliceOf (Ok Anew) code inputs o = o ≡ None
IsSliceOf (Err OutOfFuel) code inputs o = (o ≡ None) ⊎ ((r : Repair) × (o ≡ Some r) × (is_done code inputs r ≡ true))
IsSliceOf (Err Memory) code inputs o = ⊤

-- a completed run is that from scratch; where it was out of fuel so is that
abbrev pub Completes : Outcome → EngineState → Type 0
Completes (Ok More) e = ⊤
Completes (Ok Done) e = IsPresent e
Completes (Ok Anew) e = IsPresent e
Completes (Err OutOfFuel) e = fresh_of e ≡ None
Completes (Err Memory) e = ⊤

-- a repair is one of a run of the call, and is in progress afterwards only where a number of reads was given
abbrev pub Began : Outcome → EngineState → Call → Option ℕ → Type 0
Began (Ok More) e call reads = (has_run e.phase ≡ true) × (is_some reads ≡ true) × (e.call ≡ Some call)
Began (Ok Done) e call reads = (has_run e.phase ≡ true) × (e.call ≡ Some call)
Began (Ok Anew) e call reads = ⊤
Began (Err error) e call reads = ⊤

-- what the engine has is what the definition makes of this past
abbrev pub PastMatches : Outcome → EngineState → Call → Option ℕ → Past → EngineState → Type 0
PastMatches (Err Memory) e call reads p e' = ⊤
PastMatches (Err OutOfFuel) e call reads p e' = ⊤
PastMatches (Ok c) e call reads p e' =
    SamePast e.code e.inputs call.function call.args
    (past_after e.code e.inputs e.fuel (first_of e.code e.inputs e.fuel call.function call.args) reads p) (past_of e')

-- The second engine is the first one after the call, with this outcome.
pub record EngineAfterCall
    (e : EngineState) (call : Call) (reads : Option ℕ) (outcome : Outcome) (e' : EngineState) : Type 0 where
  pub code : e'.code ≡ e.code
  pub fuel : e'.fuel ≡ e.fuel
  pub inputs : e'.inputs ≡ e.inputs
  pub called : e'.call ≡ Some call
  pub phase : e'.phase ≡ phase_after_outcome outcome
  pub completes : Completes outcome e'
  pub began : Began outcome e call reads
  pub slice : (p : Past) → IsPastOf e.code e.inputs call.function call.args p
      → SamePast e.code e.inputs call.function call.args p (past_of e)
      → IsSliceOf outcome e.code e.inputs (slice_of e.code e.inputs e.fuel reads (next_repair e.code e.inputs p))
  pub makes : (p : Past) → IsPastOf e.code e.inputs call.function call.args p
      → SamePast e.code e.inputs call.function call.args p (past_of e)
      → PastMatches outcome e call reads p e'
  pub cost : CostOfCall e e'
  pub marks : KeepsMarks e e'

-- The state is this one, and what the session has of runs is what the definition makes of what it had.
pub record SituationAfterCall
    (m : Situation) (call : Call) (reads : Option ℕ) (s : State) (more : Bool) (n : Situation) : Type 0 where
  pub state : n.state ≡ s
  pub going : goes n.past ≡ more
  pub retraces : RunsAsDefined m call reads n

-- what the call leaves, by its outcome; a run that was completed is that from scratch
abbrev pub SituationAfterOutcome : Situation → Call → Option ℕ → Outcome → Situation → Type 0
SituationAfterOutcome m call reads (Ok More) n =
    (is_some reads ≡ true) × SituationAfterCall m call reads (with_part m.state) true n
SituationAfterOutcome m call reads (Ok Done) n =
    (is_some (run_of m.state call) ≡ true) × SituationAfterCall m call reads (with_run m.state call false) false n
SituationAfterOutcome m call reads (Ok Anew) n =
    (is_some (run_of m.state call) ≡ true) × SituationAfterCall m call reads (with_run m.state call false) false n
SituationAfterOutcome m call reads (Err OutOfFuel) n =
    (run_of m.state call ≡ None) × SituationAfterCall m call reads (with_run m.state call true) false n
SituationAfterOutcome m call reads (Err Memory) n = n ≡ situation_out_of_fuel m call
