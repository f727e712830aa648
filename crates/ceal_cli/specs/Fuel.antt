-- The value of the option `--fuel`.
use Rattle.std.specs.Prelude.{ℕ, List}
use Rattle.ceal_engine.specs.Engine.{LARGEST_FUEL}
use Rattle.ceal_cli.specs.Numerals.{Spells}

-- how many steps a run may take where the words do not say it
abbrev pub DEFAULT_FUEL : ℕ
DEFAULT_FUEL = 1000000

abbrev pub SpellsFuel : List ℕ → ℕ → Type 0
SpellsFuel text fuel = Spells 1 LARGEST_FUEL text fuel
