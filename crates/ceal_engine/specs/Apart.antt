-- The reads that get another value in a repair are apart in the traces.
use Rattle.std.specs.Prelude.{◌≡◌, ◌≤◌, ◌+◌, ℕ, Bool, true, false, Some}
use Rattle.ceal_base.specs.Operators.{same_word}
use Rattle.ceal_base.specs.Trace.{Trace, Stepped, Allocated, Wrote, WasRead, flat}
use Rattle.ceal_engine.specs.Cost.{revalued}
use Rattle.ceal_engine.specs.Engine.{EngineState}
use Rattle.ceal_theory.specs.Counts.{reads_of}

-- where the values of two reads are not the same, the second one counts, and so does each read inside it
abbrev pub reads_inside : Bool → ℕ → Trace → ℕ
reads_inside true n j = n
reads_inside false n j = 1 + reads_of j

-- How many reads of the second trace have another value than those beside them, or are inside one that has. The traces
-- go side by side, item by item, and past what is inside two reads whose values are not the same.
unfoldable pub reads_apart : Trace → Trace → ℕ
reads_apart (Stepped l) (Stepped m) = reads_apart l m
reads_apart (Allocated b key l) (Allocated c key' m) = reads_apart l m
reads_apart (Wrote p v l) (Wrote q w m) = reads_apart l m
reads_apart (WasRead p v u x args i l) (WasRead q w u' x' args' j m) =
    reads_inside (same_word v w) (reads_apart i j) j + reads_apart l m
reads_apart _ _ = 0

-- the reads of a new engine that have another value at their stamps are apart in the traces
abbrev pub RevaluesApart : EngineState → EngineState → Type 0
RevaluesApart e n = (l m : Trace) → e.forest ≡ Some (flat l) → n.forest ≡ Some (flat m)
    → revalued e n ≤ reads_apart l m
