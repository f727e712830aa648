-- The words of a seed (SipHash: Aumasson and Bernstein, "SipHash: a fast short-input PRF", 2012).
use Rattle.std.specs.Prelude.{ℕ}
use Rattle.std.specs.List.{fold}
use Rattle.std.specs.Hash.{u64 as bytes_of}
use Rattle.std.specs.Hash.DefaultHasher.{initial, write, finish}

-- the word at an index: what SipHash makes of the two numbers and the index, one after another
abbrev pub word_of : ℕ → ℕ → ℕ → ℕ
word_of first second at =
    finish (fold write (fold write (fold write initial (bytes_of first)) (bytes_of second)) (bytes_of at))
