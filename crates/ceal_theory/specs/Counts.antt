-- How many items of each sort a trace has, at all depths.
use Rattle.std.specs.Prelude.{◌≡◌, ℕ, ◌+◌, ◌*◌, ◌≤◌, List, [], ◌∷◌, length}
use Rattle.ceal_base.specs.Trace.{Trace, Nothing, Stepped, Allocated, Wrote, WasRead, flat, steps_of, blocks_of}
use Rattle.ceal_base.specs.declared.forest.Item.{Item}
use Rattle.ceal_base.specs.declared.forest.Item.TheVariants.{Step}
use Rattle.ceal_code.specs.Program.{Code}
use Rattle.ceal_code.specs.Replay.{Yields}
use Rattle.ceal_code.specs.Step.{Stack}
use Rattle.ceal_code.specs.Value.{Plain}
use Rattle.ceal_theory.specs.Repair.{State, Fix}

-- how many writes are in a trace, at all depths
abbrev pub writes_of : Trace → ℕ
writes_of Nothing = 0
writes_of (Stepped rest) = writes_of rest
writes_of (Allocated block key rest) = writes_of rest
writes_of (Wrote place value rest) = 1 + writes_of rest
writes_of (WasRead place value unit var args inside rest) = writes_of inside + writes_of rest

-- how many reads are in a trace, at all depths
abbrev pub reads_of : Trace → ℕ
reads_of Nothing = 0
reads_of (Stepped rest) = reads_of rest
reads_of (Allocated block key rest) = reads_of rest
reads_of (Wrote place value rest) = reads_of rest
reads_of (WasRead place value unit var args inside rest) = 1 + (reads_of inside + reads_of rest)

-- how many of the items are no steps
abbrev pub others_in : List Item → ℕ
others_in [] = 0
others_in (Step ∷ is) = others_in is
others_in (_ ∷ is) = 1 + others_in is

-- each block, write and read of a trace has its step; its other items are these, and an End for each read
abbrev pub CountLaw : Type 0
CountLaw = (code : Code) (x : Plain) (st : Stack) (l : Trace) → Yields code x st l
    → (length (blocks_of l) + (writes_of l + reads_of l) ≤ steps_of l)
    × (others_in (flat l) ≡ length (blocks_of l) + (writes_of l + 2 * reads_of l))

-- a repair makes at most as many blocks as it has work
abbrev pub BlocksLaw : Type 0
BlocksLaw =
    (code : Code) (names : ℕ → ℕ) (s s' : State) (old new : Trace) → Fix code names s old s' new
    → s'.number + s.work ≤ s.number + s'.work
