use Rattle.ceal_code.specs.Tables.{plain_in}
use Rattle.ceal_theory.proofs.Store.WordsOneByOne.{UpTo}
use Rattle.ceal_adjust.proofs.known.plain_words.Given as goal

abbrev pub invariant-loop-field : goal.invariant-loop-field
invariant-loop-field l = UpTo (plain_in l.memory l.id) l.field l.words.items
