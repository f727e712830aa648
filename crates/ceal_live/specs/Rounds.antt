-- Sets of variables on the way to the live ones.
use Rattle.std.specs.Prelude.{◌≡◌, ℕ, ◌+◌, ◌-◌, ◌^◌, ◌≤◌, Bool, true, false, ◌||◌, ◌&&◌, not, Some, List, [], ◌∷◌}
use Rattle.std.specs.Prelude.{length, slice_get}
use Rattle.ceal_flow.specs.Live.{stmt_assigns, uses_at, Live}
use Rattle.ceal_flow.specs.Sets.{is_in, is_that, IsAscending, set_at}
use Rattle.ceal_flow.specs.declared.block.GraphBlock.{GraphBlock}
use Rattle.ceal_flow.specs.declared.block.GraphBlock.TheVariants.{Done, Test, Act, Unreached}

-- the variable is in a set to which the block jumps, and the block does not assign it
abbrev pub comes : List (List ℕ) → GraphBlock → ℕ → Bool
comes sets Done w = false
comes sets (Test test first second) w = is_in w (set_at sets first) || is_in w (set_at sets second)
comes sets (Act s next) w = is_in w (set_at sets next) && not (is_that (stmt_assigns s) w)
comes sets Unreached w = false

-- whatever reaches the block is in its set
abbrev pub IsClosed : List GraphBlock → List (List ℕ) → ℕ → Type 0
IsClosed blocks sets b =
    (block : GraphBlock) (w : ℕ) → slice_get blocks b ≡ Some block → comes sets block w ≡ true
    → is_in w (set_at sets b) ≡ true

-- each set has what its block uses, and nothing that is not live there
pub record Underway (blocks : List GraphBlock) (sets : List (List ℕ)) : Type 0 where
  pub each : length sets ≡ length blocks
  pub ascending : (b : ℕ) → IsAscending (set_at sets b)
  pub few : (b : ℕ) → length (set_at sets b) ≤ 2 ^ 32
  pub used : (b v : ℕ) → is_in v (uses_at (slice_get blocks b)) ≡ true → is_in v (set_at sets b) ≡ true
  pub sound : (b v : ℕ) → is_in v (set_at sets b) ≡ true → Live blocks v b

-- each set has just what its block uses
pub record Begun (blocks : List GraphBlock) (sets : List (List ℕ)) : Type 0 where
  pub each : length sets ≡ length blocks
  pub ascending : (b : ℕ) → IsAscending (set_at sets b)
  pub few : (b : ℕ) → length (set_at sets b) ≤ 2 ^ 32
  pub used : (b v : ℕ) → is_in v (set_at sets b) ≡ is_in v (uses_at (slice_get blocks b))

-- how many variables could still be added
unfoldable pub room : List (List ℕ) → ℕ
room [] = 0
room (set ∷ sets) = (2 ^ 32 - length set) + room sets
