-- The numbers of core blocks in the order of their allocations, as the code keeps them.
use Rattle.std.specs.Prelude.{◌≡◌, ℕ, suc, ◌==◌, Option, Some, None, unwrap_or, List, [], ◌∷◌, length, if◌then◌else◌}
use Rattle.std.specs.BTreeMap.{get}
use Rattle.std.specs.Option.{option_map}
use Rattle.ceal_base.specs.contracts.word.BlockIdOrd.TheImpl.{ghosts}
use Rattle.ceal_base.specs.declared.word.BlockId.TheVariants.{Core}
use Rattle.ceal_record.specs.declared.numbers.Numbers.{Numbers}

-- the index of its first occurrence, if there is one
abbrev pub place_in : List ℕ → ℕ → Option ℕ
place_in [] b = None
place_in (c ∷ cs) b = if c == b then Some 0 else option_map (λ n. suc n) (place_in cs b)

-- the number that a block is given; for one that is not there the count
unfoldable pub number_of : Numbers → ℕ → ℕ
number_of t b = unwrap_or (get ghosts.cmp t.given (Core b)) t.count

-- Each of the blocks with these numbers is given the index of its first occurrence.
pub record Counts (t : Numbers) (bs : List ℕ) : Type 0 where
  pub count : t.count ≡ length bs
  pub each : (b : ℕ) → get ghosts.cmp t.given (Core b) ≡ place_in bs b
