use Rattle.std.proofs.Common.{List, length, ◌++◌}
use Rattle.std.specs.Prelude.{ℕ}
use Rattle.ceal_script.specs.Words.{HasWords, texts}
use Rattle.ceal_script.proofs.words.split_words.Given as goal

-- with the words of the rest after them, the words so far are those of the line
abbrev pub invariant-loop-word : goal.invariant-loop-word
invariant-loop-word l = (more : List (List ℕ)) → HasWords l.rest more → HasWords l.line (texts l.words.items ++ more)

abbrev pub decreases-loop-word : goal.decreases-loop-word
decreases-loop-word l = length l.rest
