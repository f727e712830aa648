-- The units of a repair act again and again.
use Rattle.ceal_repair.specs.Looks.{Pays}
use Rattle.ceal_repair.specs.Moment.{Start}
use Rattle.ceal_repair.specs.Repairs.{account, Runs, SameCall, StaysAnew}
use Rattle.ceal_repair.specs.declared.repair.Repair.{Repair}

-- after acts of a unit it, or another one, still runs
pub record Acting (old now : Repair) : Type 0 where
  pub call : SameCall old now
  pub some : (start : Start) × Runs start now
  pub runs : (start : Start) → Runs start old → Runs start now
  pub pays : Pays (account old) (account now)
  pub anew : StaysAnew old now
