-- What a read is found again by.
use Rattle.std.specs.Prelude.{ℕ, List}
use Rattle.ceal_base.specs.declared.forest.Key.{Key}
use Rattle.ceal_base.specs.declared.forest.UnitId.{UnitId}
use Rattle.ceal_base.specs.declared.word.Place.{Place}
use Rattle.ceal_base.specs.declared.word.Word.{Word}

-- the place that was read and its closure: the unit that continues, the variable that takes the value, and the
-- arguments
pub record ReadKey : Type 0 where
  pub place : Place
  pub unit : UnitId
  pub var : ℕ
  pub args : List Word

-- what an entry is found again by: the key of a read, or that of an allocation
pub data EntryKey : Type 0 where
  OfRead : ReadKey → EntryKey
  OfAlloc : Key → EntryKey
