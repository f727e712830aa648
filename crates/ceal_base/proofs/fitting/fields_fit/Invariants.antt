use Rattle.std.proofs.Common.{◌≡◌, drop, map}
use Rattle.ceal_base.specs.Fitting.{fields_fit}
use Rattle.ceal_base.specs.Shapes.{kind_of_field}
use Rattle.ceal_base.specs.Block.{alone}
use Rattle.ceal_base.proofs.fitting.fields_fit.Given as goal

-- the words so far fit
abbrev pub invariant-loop-at : goal.invariant-loop-at
invariant-loop-at l =
    fields_fit l.structs (alone l.inputs) (map kind_of_field (drop l.at l.fields)) (drop l.at l.words) ≡ fields_fit l.structs (alone l.inputs) (map kind_of_field l.fields) l.words
