use Rattle.std.proofs.Common.{◌≡◌, length}
use Rattle.ceal_code.specs.Tables.{plain_in}
use Rattle.ceal_traceck.specs.Items.{words_known}
use Rattle.ceal_traceck.proofs.names.words_known.Given as goal

abbrev pub invariant-loop-word : goal.invariant-loop-word
invariant-loop-word l = words_known (plain_in l.memory) l.words ≡ words_known (plain_in l.memory) l.fn.words

abbrev pub decreases-loop-word : goal.decreases-loop-word
decreases-loop-word l = length l.words
