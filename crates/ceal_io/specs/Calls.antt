-- Which calls of a stream in memory fail.
use Rattle.std.specs.Prelude.{ℕ, ◌+◌, ◌-◌, ◌^◌, ◌==◌, min, List, Bool, if◌then◌else◌}
use Rattle.std.specs.List.{list_any}
use Rattle.ceal_io.specs.Streams.{one_more_fault}

-- the numbers of the calls that fail, how many calls were made, and how many of them failed
pub record Calls : Type 0 where
  pub fails : List ℕ
  pub made : ℕ
  pub faults : ℕ

-- a stream in memory: what is left of a source or was written to a sink, and its calls
pub record MemStream : Type 0 where
  pub bytes : List ℕ
  pub calls : Calls

-- whether a list has this number
unfoldable pub has_number : List ℕ → ℕ → Bool
has_number numbers number = list_any (λ n. n == number) numbers

-- the number of the call to come, from 1; it stays the same at the end of its type
abbrev pub next_number : Calls → ℕ
next_number calls = min (calls.made + 1) (2 ^ 32 - 1)

-- whether the call to come is one that fails
abbrev pub next_fails : Calls → Bool
next_fails calls = has_number calls.fails (next_number calls)

-- the calls with one more
abbrev pub after_call : Calls → Calls
after_call calls = record {
  fails = calls.fails;
  made = next_number calls;
  faults = if next_fails calls then one_more_fault calls.faults else calls.faults;
}
