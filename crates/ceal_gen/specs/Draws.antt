-- The draws of the generator, a linear congruence modulo 2 ^ 31: that of the sample `rand` of the C standard.
use Rattle.std.specs.Prelude.{ℕ, zero, suc, ◌+◌, ◌*◌, ◌/◌, ◌%◌, ◌^◌}

-- the state after one draw
abbrev pub next_state : ℕ → ℕ
next_state state = (state * 1103515245 + 12345) % 2 ^ 31

-- the state after the given number of draws
unfoldable pub state_after : ℕ → ℕ → ℕ
state_after seed zero = seed
state_after seed (suc n) = next_state (state_after seed n)

-- what a draw gives that left this state: its upper bits
abbrev pub drawn : ℕ → ℕ
drawn state = state / 65536

-- the draw with this number, the first being 1
abbrev pub draw : ℕ → ℕ → ℕ
draw seed n = drawn (state_after seed n)
