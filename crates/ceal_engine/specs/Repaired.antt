-- What a run and a propagation make of the trace.
use Rattle.std.specs.Option.{IsSomeAnd}
use Rattle.std.specs.Prelude.{◌≡◌, ℕ, ◌≤◌, Option, Some, None, IfSome, List, ◌++◌}
use Rattle.ceal_base.specs.Block.{Block}
use Rattle.ceal_base.specs.Trace.{Trace, flat, steps_of}
use Rattle.ceal_base.specs.declared.call.Call.{Call}
use Rattle.ceal_base.specs.declared.forest.Item.{Item}
use Rattle.ceal_base.specs.declared.word.Word.{Word}
use Rattle.ceal_code.specs.Alike.{Pairs, OneToOne, TraceAlike}
use Rattle.ceal_code.specs.Fitting.{Fits}
use Rattle.ceal_code.specs.Program.{Code}
use Rattle.ceal_code.specs.Replay.{Replays, IsHonest, bases}
use Rattle.ceal_engine.specs.Engine.{EngineState, trace}
use Rattle.ceal_theory.specs.Adjust.{Above}
use Rattle.ceal_theory.specs.Computed.{Repaired, adjusted, first_of}
use Rattle.ceal_theory.specs.Named.{Apart, naming, trace_by}
use Rattle.ceal_theory.specs.Repair.{Single}
use Rattle.ceal_theory.specs.Walk.{AgreesAll}
use Rattle.ceal_trace.specs.Items.{forest_of}
use Rattle.ceal_trace.specs.Nodes.{Entry}

-- the second trace is the first one with its core blocks renamed one to one
pub record IsRenamed (l m : Trace) : Type 0 where
  pub pairs : Pairs
  pub one : OneToOne pairs
  pub alike : TraceAlike pairs l m

-- the first trace of the call on the present inputs
abbrev pub first_call : Code → List Block → ℕ → Option Call → Option Repaired
first_call code inputs fuel None = None
first_call code inputs fuel (Some call) = first_of code inputs fuel call.function call.args

-- the first trace of the engine's call on its present inputs
abbrev pub first_trace : EngineState → Option Repaired
first_trace e = first_call e.code e.inputs e.fuel e.call

-- The trace is the first trace of the call on the present inputs, its core blocks renamed one to one; all its steps are
-- work.
pub record IsFirst (e : EngineState) (l : Trace) : Type 0 where
  pub first : Repaired
  pub is : first_trace e ≡ Some first
  pub renamed : IsRenamed first.items l
  pub work : e.work ≡ steps_of first.items

-- The new trace is the repair of the old one on the present inputs with new blocks from `next` on, which have
-- these names in place of their numbers; blocks of the old trace keep theirs. The work is the repair's.
pub record IsRepairFrom (e : EngineState) (names : ℕ → ℕ) (old new : Trace) (next : ℕ) : Type 0 where
  pub repair : Repaired
  pub is : adjusted e.code e.inputs next e.fuel old ≡ Some repair
  pub named : new ≡ trace_by (naming next names) repair.items
  pub renamed : IsRenamed repair.items new
  pub work : e.work ≡ repair.work

-- The new trace is the repair of the old one on the present inputs, from any number above the old blocks; the
-- new blocks have other names, one to one, and none is that of an old block.
pub record IsRepaired (e : EngineState) (old new : Trace) : Type 0 where
  pub names : ℕ → ℕ
  pub single : Single names
  pub apart : Apart names old
  pub from : (next : ℕ) → Above next old → IsRepairFrom e names old new next

-- nothing of the trace has changed, and no step was re-executed
pub record IsUnchanged (e : EngineState) (old : Trace) : Type 0 where
  pub same : trace e ≡ Some old
  pub work : e.work ≡ 0

-- Nodes at the beginning of the old list that agree with the walk over the present inputs stay as they were,
-- each with its stamp, its content and its steps, in front of all others.
abbrev pub KeepsFront : EngineState → EngineState → Type 0
KeepsFront old new =
    IfSome old.timeline
    (λ t. (front back : List Entry) → t.nodes ≡ front ++ back
    → AgreesAll old.code (bases old.code old.inputs) (forest_of front)
    → IsSomeAnd new.timeline (λ u. (later : List Entry) × (u.nodes ≡ front ++ later)))

-- The flat items are those of a trace of the call that is honest on the inputs and has no more steps than the fuel.
pub record IsRestorable
    (code : Code) (fuel : ℕ) (inputs : List Block) (f : ℕ) (args : List Word) (items : List Item) : Type 0 where
  pub trace : Trace
  pub flat_form : items ≡ flat trace
  pub fits : Fits code inputs f args
  pub replays : Replays code inputs f args trace
  pub honest : IsHonest code inputs trace
  pub few : steps_of trace ≤ fuel

-- the trace is that of these items with its core blocks renamed one to one
abbrev pub IsRestored : List Item → Trace → Type 0
IsRestored items m = (l : Trace) → items ≡ flat l → IsRenamed l m
