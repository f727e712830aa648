-- The table of numbers: the state of each, those that were revoked, and those that are free.
use Rattle.std.specs.Prelude.{◌≡◌, ◌≢◌, ◌⊎◌, ℕ, ◌+◌, ◌<◌, ◌≤◌, ◌^◌, ◌==◌, Bool, true, false, List, [], ◌∷◌, ◌++◌}
use Rattle.std.specs.Prelude.{length, Option, Some, None, slice_get, slice_set}
use Rattle.ceal_base.specs.declared.kind.Shape.{Shape}
use Rattle.ceal_heap.specs.Stack.{Pile}
use Rattle.ceal_heap.specs.declared.number.Held.{Held}
use Rattle.ceal_heap.specs.declared.number.Number.{Number}
use Rattle.ceal_heap.specs.declared.number.State.{State}
use Rattle.ceal_heap.specs.declared.number.State.TheVariants.{Live, Revoked, Released}

-- what the table has: the numbers from 0 on and the room for them, those that were revoked, those that are free, and
-- how many are live
pub record Ledger : Type 0 where
  pub numbers : List Number
  pub room : ℕ
  pub limbo : Pile
  pub free : Pile
  pub live : ℕ

-- what is kept of a block, of a live one and of a revoked one alike
abbrev pub held_in : State → Option Held
held_in (Live held) = Some held
held_in (Revoked held) = Some held
held_in Released = None

-- the state of a live block that is revoked
abbrev pub revoked_state : State → State
revoked_state (Live held) = Revoked held
revoked_state (Revoked held) = Revoked held
revoked_state Released = Released

-- what a number holds, if it is there and live or revoked
abbrev pub held_of : Option Number → Option Held
held_of None = None
held_of (Some number) = held_in number.state

-- what the n-th number holds
abbrev pub held_at : List Number → ℕ → Option Held
held_at numbers n = held_of (slice_get numbers n)

-- the states of numbers, as tests
abbrev pub state_is_live : State → Bool
state_is_live (Live held) = true
state_is_live (Revoked held) = false
state_is_live Released = false

-- whether the state is that of a revoked block
abbrev pub state_is_revoked : State → Bool
state_is_revoked (Live held) = false
state_is_revoked (Revoked held) = true
state_is_revoked Released = false

-- whether the state is that of a number that is free again
abbrev pub state_is_released : State → Bool
state_is_released (Live held) = false
state_is_released (Revoked held) = false
state_is_released Released = true

-- whether the number's block is live
abbrev pub is_live : Number → Bool
is_live number = state_is_live number.state

-- whether the number's block is revoked
abbrev pub is_revoked : Number → Bool
is_revoked number = state_is_revoked number.state

-- whether the number is free again
abbrev pub is_released : Number → Bool
is_released number = state_is_released number.state

-- 1 for a number that passes the test
abbrev pub one_if : Bool → ℕ
one_if true = 1
one_if false = 0

-- 1 for a number that passes the test, and 0 for any other
abbrev pub mark : (Number → Bool) → Option Number → ℕ
mark test None = 0
mark test (Some number) = one_if (test number)

-- how many numbers pass the test
abbrev pub tally : (Number → Bool) → List Number → ℕ
tally test [] = 0
tally test (number ∷ numbers) = one_if (test number) + tally test numbers

-- how often a number occurs in a list
abbrev pub times : ℕ → List ℕ → ℕ
times n [] = 0
times n (m ∷ ms) = one_if (m == n) + times n ms

-- the list has exactly the numbers that pass the test, each once
pub record Tracks (test : Number → Bool) (ns : List ℕ) (numbers : List Number) : Type 0 where
  pub each : (n : ℕ) → times n ns ≡ mark test (slice_get numbers n)
  pub all : length ns ≡ tally test numbers

-- how the parts of a table fit together
pub record IsSound (t : Ledger) : Type 0 where
  pub few : length t.numbers < 2 ^ 32
  pub live : t.live ≡ tally is_live t.numbers
  pub limbo : Tracks is_revoked t.limbo.items t.numbers
  pub limbo_room : length t.numbers ≤ t.limbo.room
  pub free : Tracks is_released t.free.items t.numbers
  pub free_room : length t.numbers ≤ t.free.room

-- none is free, and a number can be added without taking memory
pub record HasRoom (t : Ledger) : Type 0 where
  pub few : length t.numbers + 1 < 2 ^ 32
  pub numbers : length t.numbers < t.room
  pub limbo : length t.numbers < t.limbo.room
  pub free : length t.numbers < t.free.room
  pub none_free : t.free.items ≡ []

-- a number can be given out without taking memory
abbrev pub IsReady : Ledger → Type 0
IsReady t = (0 < length t.free.items) ⊎ HasRoom t

-- the number is that of a live block
abbrev pub IsLiveAt : List Number → ℕ → Type 0
IsLiveAt numbers n =
    (shape : Shape) × (held : Held) × (slice_get numbers n ≡ Some (record { shape = shape; state = Live held }))

-- no number is free
abbrev pub NoneFree : List Number → Type 0
NoneFree numbers = (n : ℕ) (shape : Shape) → slice_get numbers n ≢ Some (record { shape = shape; state = Released })

-- a free number, whose last block had the old shape, was given to a block
pub record Reuses (before after : List Number) (old shape : Shape) (held : Held) (n : ℕ) : Type 0 where
  pub was : slice_get before n ≡ Some (record { shape = old; state = Released })
  pub now : after ≡ slice_set before n (record { shape = shape; state = Live held })

-- a number more was given to a block
pub record Adds (before after : List Number) (shape : Shape) (held : Held) (n : ℕ) : Type 0 where
  pub next : n ≡ length before
  pub none_free : NoneFree before
  pub now : after ≡ before ++ record { shape = shape; state = Live held } ∷ []

-- A number is given out: a free one again, with the shape of its last block, or a new one.
abbrev pub GivesOut : List Number → List Number → Shape → Held → ℕ → Option Shape → Type 0
GivesOut before after shape held n (Some old) = Reuses before after old shape held n
GivesOut before after shape held n None = Adds before after shape held n

-- a live number was revoked
abbrev pub Revokes : List Number → List Number → ℕ → Type 0
Revokes before after n =
    (shape : Shape) × (held : Held) × (slice_get before n ≡ Some (record { shape = shape; state = Live held }))
    × (after ≡ slice_set before n (record { shape = shape; state = Revoked held }))

-- a revoked number was released, and this is what was kept of its block
abbrev pub Releases : List Number → List Number → Held → Type 0
Releases before after held =
    (n : ℕ) × (shape : Shape) × (slice_get before n ≡ Some (record { shape = shape; state = Revoked held }))
    × (after ≡ slice_set before n (record { shape = shape; state = Released }))

-- No number's block is revoked.
abbrev pub NoneRevoked : List Number → Type 0
NoneRevoked numbers =
    (n : ℕ) (shape : Shape) (held : Held) → slice_get numbers n ≢ Some (record { shape = shape; state = Revoked held })
