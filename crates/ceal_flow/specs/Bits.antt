-- Sets of numbers as chunks of 64 bits.
use Rattle.std.specs.Prelude.{◌≡◌, ◌≤◌, ◌<◌, ◌+◌, ◌*◌, ◌^◌, ◌/◌, ◌%◌, ◌==◌, ℕ, zero, suc, Bool, Some, List, [], ◌∷◌}
use Rattle.std.specs.Prelude.{◌++◌, slice_get, if◌then◌else◌}
use Rattle.std.specs.Int.{bit_at}
use Rattle.ceal_flow.specs.declared.bits.Chunk.{Chunk}

-- the bits of the chunk of this number; none, where there is no such chunk
abbrev pub bits_of : List Chunk → ℕ → ℕ
bits_of [] k = 0
bits_of (c ∷ cs) k = if c.at == k then c.bits else bits_of cs k

-- whether the bit of number v is set
abbrev pub has_bit : List Chunk → ℕ → Bool
has_bit chunks v = bit_at (bits_of chunks (v / 64)) (v % 64) == 1

-- the numbers below `n` whose bits are 1, ascending
unfoldable pub members_below : List Chunk → ℕ → List ℕ
members_below chunks zero = []
members_below chunks (suc n) = members_below chunks n ++ (if has_bit chunks n then n ∷ [] else [])

-- the numbers of the first `n` bits of a chunk that are 1, ascending
unfoldable pub inside : Chunk → ℕ → List ℕ
inside c zero = []
inside c (suc n) = inside c n ++ (if bit_at c.bits n == 1 then (c.at * 64 + n) ∷ [] else [])

-- the numbers whose bits are set
abbrev pub members : List Chunk → List ℕ
members chunks = members_below chunks (2 ^ 32)

-- the numbers of chunks ascend from `k` on, and are below 2^26
abbrev pub AscendFrom : ℕ → List Chunk → Type 0
AscendFrom k [] = Unit {0}
AscendFrom k (c ∷ cs) = (k ≤ c.at) × (c.at < 2 ^ 26) × AscendFrom (c.at + 1) cs

abbrev pub AreOrdered : List Chunk → Type 0
AreOrdered chunks = AscendFrom 0 chunks

-- the first `i` chunks are before the chunk `at`
abbrev pub AreBefore : List Chunk → ℕ → ℕ → Type 0
AreBefore [] i at = Unit {0}
AreBefore (c ∷ cs) zero at = Unit {0}
AreBefore (c ∷ cs) (suc i) at = (c.at < at) × AreBefore cs i at

-- the i-th chunk, if there is one, is not before the chunk `at`
abbrev pub IsNotBefore : List Chunk → ℕ → ℕ → Type 0
IsNotBefore chunks i at = (c : Chunk) → slice_get chunks i ≡ Some c → at ≤ c.at
