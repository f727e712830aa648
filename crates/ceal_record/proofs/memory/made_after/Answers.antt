use Rattle.ceal_code.specs.Tables.{memory_in}
use Rattle.ceal_record.proofs.Left.{made-all}
use Rattle.ceal_record.proofs.memory.made_after.Goals as goal

pub returns : goal.returns
returns c = made-all (memory_in c.args.memory.now) c.loop-item.items.now c.args.items.now c.loop-item.made.items c.in_default.ensures.cases c.loop-item.invariant
