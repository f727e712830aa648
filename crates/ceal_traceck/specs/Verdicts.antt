-- What a verdict on a record means. A record is a certificate of a run, and is judged apart from its maker (McConnell,
-- Mehlhorn, Näher and Schweitzer, *Certifying algorithms*, 2011).
use Rattle.std.specs.Prelude.{◌≡◌, Bool, true, Some, List, length, map, nat_lt}
use Rattle.std.specs.List.{list_all}
use Rattle.ceal_base.specs.Block.{Block}
use Rattle.ceal_base.specs.Trace.{Trace, flat, blocks_of}
use Rattle.ceal_base.specs.declared.kind.Shape.{Shape}
use Rattle.ceal_base.specs.declared.kind.Shape.TheVariants.{Struct, ModInt, ModPtr}
use Rattle.ceal_base.specs.declared.recorded.Record.{Record}
use Rattle.ceal_base.specs.declared.typed.StructInfo.{StructInfo}
use Rattle.ceal_code.specs.After.{store_after, memory_after}
use Rattle.ceal_code.specs.Fitting.{Fits}
use Rattle.ceal_code.specs.Program.{Code}
use Rattle.ceal_code.specs.Replay.{Replays, IsHonest, bases, inputs_after}
use Rattle.ceal_traceck.specs.declared.verdict.Verdict.{Verdict}
use Rattle.ceal_traceck.specs.declared.verdict.Verdict.TheVariants.{Yes, NoFit, NotReplay, NotHonest, MemoryDiffers}

-- the struct that the shape names, if it names one, is there
abbrev pub is_known : List StructInfo → Shape → Bool
is_known structs (Struct s) = nat_lt s (length structs)
is_known structs ModInt = true
is_known structs (ModPtr s) = nat_lt s (length structs)

-- the block has a known shape
abbrev pub has_known_shape : List StructInfo → Block → Bool
has_known_shape structs block = is_known structs block.shape

-- the recorded call may be run on the recorded inputs, and each of these has a known shape
pub record CallFits (code : Code) (r : Record) : Type 0 where
  pub call : Fits code r.inputs r.function r.args
  pub shapes : list_all (has_known_shape code.structs) r.inputs ≡ true

-- the recorded items are those of this trace, which replays the call
pub record Replayed (code : Code) (r : Record) (l : Trace) : Type 0 where
  pub items : r.forest ≡ flat l
  pub replays : Replays code r.inputs r.function r.args l

-- each read of the trace records the content that its place has at that moment, from the recorded inputs on
abbrev pub IsHonestRecord : Code → Record → Trace → Type 0
IsHonestRecord code r l = IsHonest code r.inputs l

-- the recorded memory is the one after the trace: the inputs, and the core blocks in the order of their allocations
pub record Remembered (code : Code) (r : Record) (l : Trace) : Type 0 where
  pub inputs : r.memory.inputs ≡ inputs_after code (store_after code (bases code r.inputs) l) 0 r.inputs
  pub made : map Some r.memory.made ≡ map (memory_after code r.inputs l) (blocks_of l)

-- a verdict says that what it names is wrong, and that nothing is wrong that is asked before it
abbrev pub Means : Code → Record → Verdict → Type 0
Means code r Yes = CallFits code r × ((l : Trace) × Replayed code r l × IsHonestRecord code r l × Remembered code r l)
Means code r NoFit = CallFits code r → ⊥
Means code r NotReplay = CallFits code r × ((l : Trace) → Replayed code r l → ⊥)
Means code r NotHonest = CallFits code r × ((l : Trace) × Replayed code r l × (IsHonestRecord code r l → ⊥))
Means code r MemoryDiffers =
    CallFits code r × ((l : Trace) × Replayed code r l × IsHonestRecord code r l × (Remembered code r l → ⊥))
