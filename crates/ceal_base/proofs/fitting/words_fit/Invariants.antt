use Rattle.std.proofs.Common.{◌≡◌, drop}
use Rattle.ceal_base.specs.Fitting.{words_fit}
use Rattle.ceal_base.specs.Block.{alone}
use Rattle.ceal_base.proofs.fitting.words_fit.Given as goal

-- the words so far fit
abbrev pub invariant-loop-at : goal.invariant-loop-at
invariant-loop-at l =
    words_fit l.structs (alone l.inputs) (drop l.at l.kinds) (drop l.at l.words) ≡ words_fit l.structs (alone l.inputs) l.kinds l.words
