use Rattle.ceal_repair.proofs.Lists.ToldWrites.{told-step}
use Rattle.ceal_repair.proofs.tables.Tables.changed.Goals as goal

pub changed-requires-clause-values : goal.changed-requires-clause-values
changed-requires-clause-values c = told-step c.args.self.now c.requires.kept.step
