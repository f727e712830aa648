use Rattle.ceal_code.specs.Tables.{memory_in}
use Rattle.ceal_theory.proofs.Store.WordsOneByOne.{UpTo}
use Rattle.ceal_record.proofs.memory.words_after.Given as goal

abbrev pub invariant-loop-field : goal.invariant-loop-field
invariant-loop-field l = UpTo (memory_in l.memory l.id) l.field l.words.items
