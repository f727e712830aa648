-- What calls of sources and sinks do to counts of faults and to known bytes.
use Rattle.std.specs.Prelude.{◌≡◌, ℕ, ◌+◌, ◌-◌, ◌^◌, ◌≤◌, min, List, length, take, Option, Bool, if◌then◌else◌}
use Rattle.std.specs.Io.KnownBytes.{Appends, Consumes}

-- the count of faults one higher; it stays the same at the end of its type
abbrev pub one_more_fault : ℕ → ℕ
one_more_fault count = min (count + 1) (2 ^ 64 - 1)

-- a count of faults has risen, or is at the end of its type
abbrev pub Rose : ℕ → ℕ → Type 0
Rose before now = one_more_fault before ≤ now

-- a stream of std: what is left of a source or was written to a sink, where it is known, and its count of faults
pub record StdStream : Type 0 where
  pub known : Option (List ℕ)
  pub faults : ℕ

-- its count of faults after a call that failed or not
abbrev pub faults_after : StdStream → Bool → ℕ
faults_after stream failed = if failed then one_more_fault stream.faults else stream.faults

-- known bytes have lost exactly this number of bytes at their front
abbrev pub LosesCount : Option (List ℕ) → Option (List ℕ) → ℕ → Type 0
LosesCount old new count = (lost : List ℕ) × Consumes old new lost × (length lost ≡ count)

-- known bytes have lost at most this number of bytes at their front
abbrev pub LosesAtMost : Option (List ℕ) → Option (List ℕ) → ℕ → Type 0
LosesAtMost old new count = (lost : List ℕ) × Consumes old new lost × (length lost ≤ count)

-- known bytes have grown by a prefix of these
abbrev pub GrowsByPrefix : Option (List ℕ) → Option (List ℕ) → List ℕ → Type 0
GrowsByPrefix old new bytes = (count : ℕ) × (count ≤ length bytes) × Appends old new (take count bytes)
