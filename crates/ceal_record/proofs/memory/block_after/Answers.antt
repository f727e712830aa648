use Rattle.std.proofs.Common.{◌∙◌, sym}
use Rattle.ceal_code.specs.Tables.{memory_in}
use Rattle.ceal_record.proofs.Words.{shape-after, block-is, block-none}
use Rattle.ceal_record.proofs.memory.block_after.Goals as goal

pub returns-in-None : goal.returns-in-None
returns-in-None c = block-none (memory_in c.args.memory.now c.args.id) (sym c.in-None.is ∙ (c.shape.ensures ∙ sym (shape-after c.args.memory.now c.args.id)))

-- the block has this shape, and its words field by field
pub returns-in_ok-words-in-Some : goal.returns-in_ok-words-in-Some
returns-in_ok-words-in-Some c =
    rw c.new.ensures.value
    (block-is (memory_in c.args.memory.now c.args.id) c.in-Some.shape c.in_ok-words-in-Some.words.items
    (sym c.in-Some.is ∙ (c.shape.ensures ∙ sym
    (shape-after c.args.memory.now c.args.id))) c.in_ok-words-in-Some.ensures)
