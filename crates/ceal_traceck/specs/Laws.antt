-- What a yes says of the run from scratch.
use Rattle.std.specs.Prelude.{◌≡◌, ℕ, ◌<◌, ◌≤◌, Option, Some, None, List, length, slice_get}
use Rattle.ceal_base.specs.Block.{Block, Blocks}
use Rattle.ceal_base.specs.Same.{Same, index_of}
use Rattle.ceal_base.specs.Trace.{Trace, flat, steps_in, blocks_of}
use Rattle.ceal_base.specs.declared.recorded.Record.{Record}
use Rattle.ceal_code.specs.Fresh.{fresh}
use Rattle.ceal_code.specs.Program.{Code}
use Rattle.ceal_code.specs.Replay.{core_numbers}
use Rattle.ceal_traceck.specs.Verdicts.{Means}
use Rattle.ceal_traceck.specs.declared.verdict.Verdict.{Verdict}
use Rattle.ceal_traceck.specs.declared.verdict.Verdict.TheVariants.{Yes}

-- the core block of this number, where the blocks are in the order of these numbers
abbrev pub block_of : List ℕ → List Block → ℕ → Option Block
block_of numbers made b = slice_get made (index_of numbers b)

-- The run from scratch of the recorded call on the recorded inputs ends with as many steps as the items have,
-- and not with fewer. The recorded memory is its memory, up to the numbers of core blocks.
pub record Sound (code : Code) (r : Record) : Type 0 where
  pub trace : Trace
  pub items : r.forest ≡ flat trace
  pub memory : Blocks
  pub same : Same (core_numbers (blocks_of trace)) r.memory.inputs
      (block_of (core_numbers (blocks_of trace)) r.memory.made) memory
  pub ends : (fuel : ℕ) → steps_in r.forest ≤ fuel
      → fresh code r.function r.args r.inputs fuel
      ≡ Some (record { memory = memory; steps = steps_in r.forest; blocks = length r.memory.made })
  pub short : (fuel : ℕ) → fuel < steps_in r.forest → fresh code r.function r.args r.inputs fuel ≡ None

-- Where the checker says yes, the record is that of a run.
abbrev pub SoundLaw : Type 0
SoundLaw = (code : Code) (r : Record) → Means code r Yes → Sound code r

-- a record has one verdict at most
abbrev pub OneVerdictLaw : Type 0
OneVerdictLaw = (code : Code) (r : Record) (v w : Verdict) → Means code r v → Means code r w → v ≡ w

-- and one at least
abbrev pub SomeVerdictLaw : Type 0
SomeVerdictLaw = (code : Code) (r : Record) → (v : Verdict) × Means code r v
