-- A record to which the checker says yes is a certificate of a run. A call whose run from scratch ends has one, and up
-- to the numbers of core blocks it has only one.
use Rattle.std.specs.Prelude.{◌≡◌, ℕ, true, Some, List}
use Rattle.std.specs.List.{list_all}
use Rattle.ceal_base.specs.Block.{Block, Blocks}
use Rattle.ceal_base.specs.Finished.{Finished}
use Rattle.ceal_base.specs.Same.{Same}
use Rattle.ceal_base.specs.Trace.{Trace, flat, steps_in}
use Rattle.ceal_base.specs.declared.call.Call.{Call}
use Rattle.ceal_base.specs.declared.recorded.Record.{Record}
use Rattle.ceal_code.specs.Alike.{TraceAlike, zipped}
use Rattle.ceal_code.specs.Fitting.{Fits}
use Rattle.ceal_code.specs.Fresh.{fresh}
use Rattle.ceal_code.specs.Program.{Code}
use Rattle.ceal_record.specs.Recorded.{numbers_of}
use Rattle.ceal_traceck.specs.Laws.{block_of}
use Rattle.ceal_traceck.specs.Verdicts.{Means, has_known_shape}
use Rattle.ceal_traceck.specs.declared.verdict.Verdict.TheVariants.{Yes}

-- the record is of this call on these inputs
pub record IsOfCall (inputs : List Block) (call : Call) (r : Record) : Type 0 where
  pub inputs_are : r.inputs ≡ inputs
  pub function : r.function ≡ call.function
  pub args : r.args ≡ call.args

-- the recorded memory is this one, where the i-th core block has the number i
abbrev pub IsMemoryOf : Record → Trace → Blocks → Type 0
IsMemoryOf r l m = Same (numbers_of l) r.memory.inputs (block_of (numbers_of l) r.memory.made) m

-- The traces of both are one up to the numbers of core blocks, the i-th of the one for the i-th of the other, and
-- so are the memories.
pub record SameRun (r s : Record) : Type 0 where
  pub left : Trace
  pub right : Trace
  pub left_items : r.forest ≡ flat left
  pub right_items : s.forest ≡ flat right
  pub traces : TraceAlike (zipped (numbers_of left) (numbers_of right)) left right
  pub memory : Blocks
  pub left_memory : IsMemoryOf r left memory
  pub right_memory : IsMemoryOf s right memory

-- Two records of one call to which the checker says yes are of one run.
abbrev pub OneRunLaw : Type 0
OneRunLaw = (code : Code) (inputs : List Block) (call : Call) (r s : Record)
    → IsOfCall inputs call r → IsOfCall inputs call s → Means code r Yes → Means code s Yes → SameRun r s

-- There is a record of the run, and the checker says yes to it.
pub record Certified (code : Code) (inputs : List Block) (call : Call) (run : Finished) : Type 0 where
  pub kept : Record
  pub of : IsOfCall inputs call kept
  pub steps : steps_in kept.forest ≡ run.steps
  pub yes : Means code kept Yes

-- So it is where the run from scratch of a call that fits ends.
abbrev pub SomeCertificateLaw : Type 0
SomeCertificateLaw = (code : Code) (inputs : List Block) (call : Call) (fuel : ℕ) (run : Finished)
    → Fits code inputs call.function call.args → list_all (has_known_shape code.structs) inputs ≡ true
    → fresh code call.function call.args inputs fuel ≡ Some run → Certified code inputs call run
