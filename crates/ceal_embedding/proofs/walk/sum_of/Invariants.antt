use Rattle.std.proofs.Common.{◌≡◌, ◌≤◌, ℤ, List, length}
use Rattle.ceal_embedding.specs.Lists.{IsListFrom, sum_of as total, sum_from}
use Rattle.ceal_embedding.proofs.walk.sum_of.Given as goal

-- A list from here on is the rest of one from the first cell on, and the other way round.
abbrev pub invariant-loop-word : goal.invariant-loop-word
invariant-loop-word l = record {
  sum : (rest : List ℤ) → IsListFrom l.engine l.word rest
      → (numbers : List ℤ) × IsListFrom l.engine l.fn.first numbers × (sum_from l.sum rest ≡ total numbers);
  sure : (numbers : List ℤ) → IsListFrom l.engine l.fn.first numbers → length numbers ≤ l.fn.most
      → (rest : List ℤ) × IsListFrom l.engine l.word rest × (length rest ≤ l.left);
}

abbrev pub decreases-loop-word : goal.decreases-loop-word
decreases-loop-word l = l.left
