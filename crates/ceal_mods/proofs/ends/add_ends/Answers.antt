use Rattle.std.proofs.Common.{refl}
use Rattle.ceal_mods.proofs.ToldCells.{told-item}
use Rattle.ceal_mods.proofs.ends.add_ends.Goals as goal

pub end-requires : goal.end-requires
end-requires g c =
    record { values = rw c.entry-item.is (told-item (g.W.Written.tells c.args.written.now) c.args.cells.now c.loop-entry.entry-index c.entry-item.result c.loop-entry-test.true c.requires.values) }
