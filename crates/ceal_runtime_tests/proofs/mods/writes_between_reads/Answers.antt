use Rattle.std.proofs.Common.{rules}
use Rattle.ceal_runtime_tests.proofs.ToldTwos.{told-cut}
use Rattle.ceal_runtime_tests.proofs.mods.writes_between_reads.Goals as goal

pub read_behind-fourth-requires-clause-follows : goal.read_behind-fourth-requires-clause-follows
read_behind-fourth-requires-clause-follows g c = c.set_base.ensures.follows c.args.order.now.stamps (c.requires.follows c.args.order.now.stamps)

pub last_value-requires : goal.last_value-requires
last_value-requires g c = record { values = rw c.remove_write.ensures.cell.here (told-cut c.write_behind-second.result.0 _ (search rules)) }
