use Rattle.ceal_code.specs.Tables.{memory_in}
use Rattle.ceal_traceck.proofs.MemorySteps.{if-ok, if-none, if-some, skip-step, skip-write, skip-read, skip-end, alloc-wrong, alloc-more}
use Rattle.ceal_traceck.proofs.memory.left_over.Goals as goal

-- the allocated block is not the first one that is left, so the blocks are not those of the items
pub returns-in-Alloc-clause-none : goal.returns-in-Alloc-clause-none
returns-in-Alloc-clause-none c =
    if-ok c.blocks_after.result _ _ (λ found h. if-none found _ _
    (λ absent. alloc-wrong (memory_in c.args.memory.now) c.args.item.now c.in-Alloc.block c.in-Alloc.key c.args.blocks.now c.in-Alloc.is absent) h) c.blocks_after.ensures.none

-- the allocated block is the first one that is left, and the others remain
pub returns-in-Alloc-clause-some : goal.returns-in-Alloc-clause-some
returns-in-Alloc-clause-some c =
    if-ok c.blocks_after.result _ _ (λ found h.
    if-some found _ _ (λ more g.
    alloc-more (memory_in c.args.memory.now) c.args.item.now c.in-Alloc.block c.in-Alloc.key g.0 c.args.blocks.now more.now c.in-Alloc.is g.1 g.2) h) c.blocks_after.ensures.some

pub returns-in-Step-clause-some : goal.returns-in-Step-clause-some
returns-in-Step-clause-some c = λ is. skip-step (memory_in c.args.memory.now) c.args.item.now is c.args.blocks.now c.in-Step.is

pub returns-in-Write-clause-some : goal.returns-in-Write-clause-some
returns-in-Write-clause-some c = λ is. skip-write (memory_in c.args.memory.now) c.args.item.now is c.args.blocks.now c.in-Write.place c.in-Write.value c.in-Write.is

pub returns-in-Read-clause-some : goal.returns-in-Read-clause-some
returns-in-Read-clause-some c =
    λ is. skip-read (memory_in c.args.memory.now) c.args.item.now is c.args.blocks.now c.in-Read.place c.in-Read.value c.in-Read.unit c.in-Read.var c.in-Read.args c.in-Read.is

pub returns-in-End-clause-some : goal.returns-in-End-clause-some
returns-in-End-clause-some c = λ is. skip-end (memory_in c.args.memory.now) c.args.item.now is c.args.blocks.now c.in-End.is
