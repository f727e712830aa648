-- The record of a trace.
use Rattle.std.specs.Prelude.{◌≡◌, ℕ, List}
use Rattle.ceal_base.specs.Block.{Block}
use Rattle.ceal_base.specs.Same.{index_of}
use Rattle.ceal_base.specs.Trace.{Trace, flat, blocks_of}
use Rattle.ceal_base.specs.declared.call.Call.{Call}
use Rattle.ceal_base.specs.declared.recorded.Record.{Record}
use Rattle.ceal_code.specs.After.{store_after}
use Rattle.ceal_code.specs.Fitting.{Fits}
use Rattle.ceal_code.specs.Program.{Code}
use Rattle.ceal_code.specs.Replay.{Store, Replays, bases, core_numbers}
use Rattle.ceal_theory.specs.Named.{trace_by}
use Rattle.ceal_traceck.specs.Verdicts.{Remembered}

-- the numbers of a trace's core blocks, in the order of their allocations
abbrev pub numbers_of : Trace → List ℕ
numbers_of l = core_numbers (blocks_of l)

-- the trace whose i-th block, counted from 0, is `Core i` throughout
unfoldable pub in_order : Trace → Trace
in_order l = trace_by (index_of (numbers_of l)) l

-- a trace of a call that may be run on the inputs
pub record IsTraceOf (code : Code) (inputs : List Block) (call : Call) (l : Trace) : Type 0 where
  pub fits : Fits code inputs call.function call.args
  pub replays : Replays code inputs call.function call.args l

-- The record has the inputs, the call, the trace with its blocks in order, and the memory after that.
pub record IsRecordOf (code : Code) (inputs : List Block) (call : Call) (l : Trace) (r : Record) : Type 0 where
  pub blocks : r.inputs ≡ inputs
  pub function : r.function ≡ call.function
  pub args : r.args ≡ call.args
  pub items : r.forest ≡ flat (in_order l)
  pub memory : Remembered code r (in_order l)

-- the contents of the modifiables after a trace on these inputs
abbrev pub left_by : Code → List Block → Trace → Store
left_by code inputs l = store_after code (bases code inputs) l
