-- The sizes of jobs that are measured.
use Rattle.std.specs.Prelude.{◌≤◌, ℕ}

-- from three to a hundred thousand
abbrev pub IsSize : ℕ → Type 0
IsSize size = (3 ≤ size) × (size ≤ 100000)
