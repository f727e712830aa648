use Rattle.ceal_runtime_tests.proofs.NewStamps.{absent}
use Rattle.ceal_runtime_tests.proofs.mods.read_behind.Goals as goal

pub add_read-requires-clause-absent : goal.add_read-requires-clause-absent
add_read-requires-clause-absent g c = absent _ _ c.args.order.now.stamps (c.requires.follows c.args.place).reads c.insert_after-stamp.ensures.new
