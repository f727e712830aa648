use Rattle.std.proofs.Common.{length, slice_get, ap, ◌∙◌}
use Rattle.ceal_base.specs.declared.word.BlockId.TheVariants.{Input}
use Rattle.ceal_code.specs.After.{memory_after as block_left}
use Rattle.ceal_code.specs.Tables.{memory_in}
use Rattle.ceal_record.proofs.Left.{inputs-same, made-left}
use Rattle.ceal_record.proofs.memory.memory_after.Goals as goal

-- each input has its words at the end of the trace, so the inputs are those of the memory
pub returns-clause-inputs : goal.returns-clause-inputs
returns-clause-inputs c = λ l f args e r.
    rw (c.new-2.ensures.value, c.new.ensures.value)
    (inputs-same c.args.code.now c.args.inputs.now f args l r c.in_ok-inputs.inputs.items (c.in_ok-inputs.ensures.count ∙ ap length c.items.ensures.value)
    (λ n old b g h k. c.in_ok-inputs.ensures.each n old b (ap (λ is. slice_get is n) c.items.ensures.value ∙ g) (c.in_ok-memory.ensures.memory l e (Input n) ∙ h) k))

-- core blocks are those that the items allocate, in that order, each with its words at the end
pub returns-clause-made : goal.returns-clause-made
returns-clause-made c = λ l e.
    rw (c.new-2.ensures.value)
    (made-left (memory_in c.in_ok-memory.memory) (block_left c.args.code.now c.args.inputs.now l) l c.args.items.now c.in_ok-made.made.items e (c.in_ok-memory.ensures.memory l e) c.in_ok-made.ensures)
