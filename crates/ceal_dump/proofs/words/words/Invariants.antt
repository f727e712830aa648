use Rattle.std.proofs.Common.{◌≡◌, ℕ, ◌+◌, ◌≤◌, ◌++◌, length}
use Rattle.ceal_dump.specs.Reading.{words_from}
use Rattle.ceal_dump.proofs.words.words.Given as goal

-- what is read from here on belongs after what was read so far; each word took a byte at least
abbrev pub invariant-loop-reader : goal.invariant-loop-reader
invariant-loop-reader l = record {
  few : length l.words.items + length l.reader ≤ length l.fn.reader;
  same : (k : ℕ) → l.words.items ++ (words_from k l.reader).0 ≡ (words_from (length l.words.items + k) l.fn.reader).0;
  rest : (k : ℕ) → (words_from k l.reader).1 ≡ (words_from (length l.words.items + k) l.fn.reader).1;
}

abbrev pub decreases-loop-reader : goal.decreases-loop-reader
decreases-loop-reader l = length l.reader
