-- Units that wait, as the code keeps them.
use Rattle.std.specs.Prelude.{List, []}
use Rattle.ceal_base.specs.declared.word.Word.{Word}
use Rattle.ceal_code.specs.declared.waits.Waiting.{Waiting}

-- units, the next one last, and the words of their variables one after another
pub record Pile : Type 0 where
  pub units : List Waiting
  pub words : List Word

abbrev pub no_units : Pile
no_units = record { units = []; words = [] }

-- units that are set aside, and those that wait over them
pub record Piles : Type 0 where
  pub aside : Pile
  pub waits : Pile
