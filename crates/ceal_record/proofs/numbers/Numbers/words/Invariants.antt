use Rattle.std.proofs.Common.{◌≡◌, ◌++◌, length}
use Rattle.ceal_record.specs.Numbers.{number_of}
use Rattle.ceal_theory.specs.Named.{words_by}
use Rattle.ceal_record.proofs.numbers.Numbers.words.Given as goal

abbrev pub invariant-loop-word : goal.invariant-loop-word
invariant-loop-word l = l.named ++ words_by (number_of l.self) l.words ≡ words_by (number_of l.self) l.fn.words

abbrev pub decreases-loop-word : goal.decreases-loop-word
decreases-loop-word l = length l.words
