-- The names and the shapes of inputs.
use Rattle.std.specs.Prelude.{◌≡◌, ℕ, true, List, bytes_eq}
use Rattle.std.specs.List.{AllByRecursion, IsDistinct, list_all}
use Rattle.ceal_base.specs.Block.{Block}
use Rattle.ceal_base.specs.declared.typed.StructInfo.{StructInfo}
use Rattle.ceal_script.specs.Spelling.{IsName}
use Rattle.ceal_script.specs.declared.command.Command.{Command}
use Rattle.ceal_script.specs.declared.command.Command.TheVariants.{Mod, New}
use Rattle.ceal_traceck.specs.Verdicts.{has_known_shape}

-- each of them is a name
abbrev pub AreSpelled : List (List ℕ) → Type 0
AreSpelled names = AllByRecursion IsName names

-- none of them occurs twice
abbrev pub AreDistinct : List (List ℕ) → Type 0
AreDistinct names = IsDistinct bytes_eq names

-- the name of the input that the command makes, if it makes one, is a name
abbrev pub IsNamed : Command → Type 0
IsNamed (Mod name kind value) = IsName name
IsNamed (New name shape values) = IsName name
IsNamed _ = Unit {0}

-- the struct that an input's shape names, if it names one, is there
abbrev pub HaveKnownShapes : List StructInfo → List Block → Type 0
HaveKnownShapes structs inputs = list_all (has_known_shape structs) inputs ≡ true
