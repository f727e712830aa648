use Rattle.std.proofs.Common.{length}
use Rattle.ceal_code.specs.Tables.{memory_in}
use Rattle.ceal_traceck.proofs.MemorySteps.{zero-told, told-zero, none-made}
use Rattle.ceal_traceck.proofs.memory.are_made.Goals as goal

-- no item is left, so what has to be there is exactly the blocks that are left
pub returns : goal.returns
returns c =
    let n = length c.loop-item.blocks.now in
    let made = none-made (memory_in c.args.memory.now) c.loop-item.items.now c.loop-item.blocks.now c.in_default.ensures.cases in (
      λ t. c.loop-item.invariant.1 (made.0 (zero-told n c.is_empty.result c.is_empty.ensures t)),
      λ h. told-zero n c.is_empty.result c.is_empty.ensures (made.1 (c.loop-item.invariant.0 h)),
    )
