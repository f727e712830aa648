-- Why a conversation ends early.
use Rattle.std.specs.Prelude.{◌≤◌, ℕ, Result, IsErrOf}
use Rattle.ceal_io.specs.Streams.{Rose}
use Rattle.ceal_io.specs.declared.streams.Stopped.{Stopped}
use Rattle.ceal_io.specs.declared.streams.Stopped.TheVariants.{Memory as NoRoom, Failed}
use Rattle.ceal_serve.specs.declared.trouble.Trouble.{Trouble}
use Rattle.ceal_serve.specs.declared.trouble.Trouble.TheVariants.{Memory, ReadFault, WriteFault}

-- the trouble of a write that stopped
abbrev pub stopped_trouble : Stopped → Trouble
stopped_trouble NoRoom = Memory
stopped_trouble Failed = WriteFault

-- A call says that a read or a write failed only where its count of faults rose, and the counts never fall.
pub record IsCounted {A : Type 0} (result : Result A Trouble) (reads reads_after writes writes_after : ℕ) : Type 0 where
  pub read_fault : IsErrOf result ReadFault → Rose reads reads_after
  pub write_fault : IsErrOf result WriteFault → Rose writes writes_after
  pub reads_later : reads ≤ reads_after
  pub writes_later : writes ≤ writes_after
