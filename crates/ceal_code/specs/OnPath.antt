-- The commands of a unit's body that a run may reach, and what it knows there.
use Rattle.std.specs.Prelude.{◌≡◌, ℕ, Bool, true, false, Some, List, length, replicate, slice_get, slice_set, Contains}
use Rattle.ceal_code.specs.Program.{Unit, Code}
use Rattle.ceal_code.specs.Step.{kinds_of}
use Rattle.ceal_code.specs.Valid.{followers, with_params}
use Rattle.ceal_code.specs.declared.command.Cmd.{Cmd}
use Rattle.ceal_code.specs.declared.command.Cmd.TheVariants.{Move, Alloc, Modref}

-- the variables that have a word where the unit begins: its parameters
abbrev pub params_known : Code → Unit → List Bool
params_known code unit = with_params (replicate (length (kinds_of code unit.function)) false) unit.params

-- the variables that have a word after a command
abbrev pub known_after : List Bool → Cmd → List Bool
known_after known (Move v e) = slice_set known v.0 true
known_after known (Alloc v g args) = slice_set known v.0 true
known_after known (Modref v shape) = slice_set known v.0 true
known_after known _ = known

-- an index lies on a path from the first, on which these variables have got a word; `stepped` says that a command is
-- before it on the path
pub data IsOnPath (code : Code) (unit : Unit) : ℕ → (known : List Bool) → (stepped : Bool) → Type 0 where
  first : IsOnPath code unit 0 (params_known code unit) false
  next : {i j : ℕ} {known : List Bool} {stepped : Bool} {c : Cmd} → IsOnPath code unit i known stepped
      → slice_get unit.body i ≡ Some c → Contains (followers c i) j → IsOnPath code unit j (known_after known c) true

-- some path reaches the index
pub record IsReached (code : Code) (unit : Unit) (i : ℕ) : Type 0 where
  pub known : List Bool
  pub stepped : Bool
  pub path : IsOnPath code unit i known stepped
