use Rattle.std.proofs.Common.{rules}
use Rattle.ceal_runtime_tests.proofs.NewStamps.{absent, written}
use Rattle.ceal_mods.specs.Mods.{cell_of}
use Rattle.ceal_runtime_tests.proofs.ToldTwos.{on-ok, told-put}
use Rattle.ceal_runtime_tests.proofs.mods.write_behind.Goals as goal

pub add_write-requires-clause-absent : goal.add_write-requires-clause-absent
add_write-requires-clause-absent g c = absent _ _ c.args.order.now.stamps (c.requires.follows c.args.place).writes c.insert_after-stamp.ensures.new

pub returns-clause-written : goal.returns-clause-written
returns-clause-written g c = search (rules, written)

pub returns-clause-twos : goal.returns-clause-twos
returns-clause-twos g c = λ told.
    let changes = on-ok _ _ c.expect.ensures c.add_write.ensures.ok in
    rw changes.here (told-put c.insert_after-stamp.new.self.stamps c.insert_after-stamp.result.0 (cell_of c.args.mods.now c.args.place) told)
