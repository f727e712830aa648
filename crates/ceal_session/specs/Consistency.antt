-- The situations that a session comes to, and when a session is in one.
use Rattle.std.specs.Prelude.{◌≡◌, ◌≤◌, true, false, Option, Some, None, IfSome, List, length}
use Rattle.ceal_base.specs.Block.{Block}
use Rattle.ceal_base.specs.Fitting.{inputs_fit}
use Rattle.ceal_base.specs.Trace.{steps_of}
use Rattle.ceal_base.specs.declared.call.Call.{Call}
use Rattle.ceal_code.specs.Fitting.{Fits}
use Rattle.ceal_code.specs.Program.{Code}
use Rattle.ceal_code.specs.Replay.{Replays, IsHonest}
use Rattle.ceal_compile.specs.Compiled.{IsCompiled}
use Rattle.ceal_theory.specs.Adjust.{Extended}
use Rattle.ceal_theory.specs.Computed.{Repaired}
use Rattle.ceal_theory.specs.Pasts.{Past, NoTrace, Traced, Going, SamePast}
use Rattle.ceal_theory.specs.Repair.{own}
use Rattle.ceal_theory.specs.Slices.{Repair, RepairHolds}
use Rattle.ceal_session.specs.InputNames.{AreSpelled, AreDistinct, HaveKnownShapes}
use Rattle.ceal_session.specs.State.{State, Situation, last}
use Rattle.ceal_session.specs.Steps.{IsCall}

-- The trace is one of the call on the inputs, and was an honest one on the settled ones, where it has no more
-- steps than a run may take. Where no edit came since, the inputs are the settled ones.
pub record IsTraceIn (code : Code) (s : State) (call : Call) (l : Repaired) : Type 0 where
  pub within : s.out_of_fuel ≡ false
  pub replays : Replays code s.inputs call.function call.args l.items
  pub was : Replays code s.settled call.function call.args l.items
  pub honest : IsHonest code s.settled l.items
  pub few : steps_of l.items ≤ s.fuel
  pub same : s.pending ≡ false → s.settled ≡ s.inputs

-- The repair is one of the call on the inputs, and it is pending.
pub record IsRepairIn (code : Code) (s : State) (call : Call) (r : Repair) : Type 0 where
  pub within : s.out_of_fuel ≡ false
  pub pending : s.pending ≡ true
  pub sound : RepairHolds code own s.inputs call.function call.args r

-- There is a trace, or a repair in progress, where a call was accepted and was not out of fuel, and it is
-- one of that call.
abbrev pub IsPastIn : Code → State → Option Call → Past → Type 0
IsPastIn code s None past = past ≡ NoTrace
IsPastIn code s (Some call) NoTrace = s.out_of_fuel ≡ true
IsPastIn code s (Some call) (Traced l) = IsTraceIn code s call l
IsPastIn code s (Some call) (Going r) = IsRepairIn code s call r

-- The settled inputs fit, and are the present ones but for bases.
pub record IsSettled (code : Code) (s : State) : Type 0 where
  pub fits : inputs_fit code.structs s.settled ≡ true
  pub extended : Extended code s.settled s.inputs
  pub count : length s.settled ≡ length s.inputs

-- What is true of the trace of a session, whatever the numbers of its core blocks are.
pub record HasTraceOf (m : Situation) (call : Call) (l : Repaired) : Type 0 where
  pub now : Fits m.code m.state.inputs call.function call.args
  pub was : Fits m.code m.state.settled call.function call.args
  pub settled : IsSettled m.code m.state
  pub trace : IsTraceIn m.code m.state call l

abbrev pub HasTrace : Situation → Type 0
HasTrace m = IfSome (last m) (λ l. (call : Call) × (m.state.call ≡ Some call) × HasTraceOf m call l)

-- The program has this code; each input has a different name and a known shape; the inputs fit, and so does the
-- accepted call; the past is one of it.
pub record IsConsistent (m : Situation) : Type 0 where
  pub compiled : IsCompiled (record { typed = m.state.program; code = m.code })
  pub named : length m.state.names ≡ length m.state.inputs
  pub spelled : AreSpelled m.state.names
  pub once : AreDistinct m.state.names
  pub shapes : HaveKnownShapes m.state.program.structs m.state.inputs
  pub fits : inputs_fit m.state.program.structs m.state.inputs ≡ true
  pub settled : IsSettled m.code m.state
  pub called : IfSome m.state.call (IsCall m.state)
  pub past : IsPastIn m.code m.state m.state.call m.past

-- the same past up to the numbers of core blocks; where no call was accepted there is none
abbrev pub IsSamePast : Code → List Block → Option Call → Past → Past → Type 0
IsSamePast code inputs None p q = (p ≡ NoTrace) × (q ≡ NoTrace)
IsSamePast code inputs (Some call) p q = SamePast code inputs call.function call.args p q

-- A session is in the situation, up to the numbers of the core blocks of its trace or repair.
pub record IsIn (session m : Situation) : Type 0 where
  pub state : session.state ≡ m.state
  pub code : session.code ≡ m.code
  pub bound : session.bound ≡ m.bound
  pub sound : IsConsistent m
  pub past : IsSamePast m.code m.state.inputs m.state.call m.past session.past

-- There is a situation that the session is in.
abbrev pub IsInSome : Situation → Type 0
IsInSome session = (m : Situation) × IsIn session m
