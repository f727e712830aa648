use Rattle.ceal_repair.proofs.Lists.ToldWrites.{told-step}
use Rattle.ceal_repair.proofs.tables.Tables.last_value.Goals as goal

pub last_value-requires : goal.last_value-requires
last_value-requires c = record { values = told-step c.args.self.now c.requires.kept.step c.args.place }
