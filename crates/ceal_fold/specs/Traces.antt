-- When two codes have the same traces.
use Rattle.std.specs.Prelude.{◌↔◌, ℕ, List}
use Rattle.ceal_base.specs.Block.{Block}
use Rattle.ceal_base.specs.Trace.{Trace}
use Rattle.ceal_base.specs.declared.word.Word.{Word}
use Rattle.ceal_code.specs.Program.{Code}
use Rattle.ceal_code.specs.Replay.{Yields, Replays}
use Rattle.ceal_code.specs.Step.{Empty, entered}
use Rattle.ceal_code.specs.Value.{Plain}

-- each unit yields the same traces, on the same words and over the same plain words
abbrev pub SameTraces : Code → Code → Type 0
SameTraces c d =
    (x : Plain) (u : ℕ) (words : List Word) (l : Trace)
    → Yields c x (entered c u words Empty) l ↔ Yields d x (entered d u words Empty) l

-- the same traces replay each call, on the same inputs
abbrev pub SameReplays : Code → Code → Type 0
SameReplays c d =
    (inputs : List Block) (f : ℕ) (args : List Word) (l : Trace) → Replays c inputs f args l ↔ Replays d inputs f args l
