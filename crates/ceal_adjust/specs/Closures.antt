-- What reads are found by: their closures.
use Rattle.std.specs.Prelude.{ℕ, Option, List}
use Rattle.ceal_base.specs.declared.forest.Item.{Item}
use Rattle.ceal_code.specs.declared.stack.Closure.{Closure}
use Rattle.ceal_theory.specs.Levels.{FoundRead, find_read}
use Rattle.ceal_adjust.specs.declared.mark.Mark.{Mark}
use Rattle.ceal_adjust.specs.declared.mark.Mark.TheVariants.{Taken}

-- the mark of a read
abbrev pub mark_of_read : Closure → Mark
mark_of_read c = Taken c.place c.unit c.var c.args

-- the earliest read of the closure in the levels
abbrev pub find_closure : Closure → ℕ → List Item → Option FoundRead
find_closure c n is = find_read c.place c.unit c.var c.args n is
