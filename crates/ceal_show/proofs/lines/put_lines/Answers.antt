use Rattle.std.proofs.Common.{◌∙◌, sym}
use Rattle.ceal_base.specs.declared.word.BlockId.TheVariants.{Input}
use Rattle.ceal_show.specs.Graph.{Scene}
use Rattle.ceal_show.proofs.Finding.{is_in-get_or}
use Rattle.ceal_show.proofs.LineSteps.{lines_more, lines_all}
use Rattle.ceal_show.proofs.lines.put_lines.Goals as goal

pub put_block-requires-clause-met : goal.put_block-requires-clause-met
put_block-requires-clause-met g c =
    let within = rw c.blocks-block-items.ensures.value at c.loop-block-test.true in
    rw c.blocks-block-items.ensures.value (is_in-get_or c.args.met.now c.loop-block.block-index (Input 0) within)

-- the met blocks are closed under pointers, so this one is in the memory
pub put_block-requires-clause-there : goal.put_block-requires-clause-there
put_block-requires-clause-there g c =
    let within = rw c.blocks-block-items.ensures.value at c.loop-block-test.true in
    rw c.blocks-block-items.ensures.value (c.requires.closed.there _ (is_in-get_or c.args.met.now c.loop-block.block-index (Input 0) within))

-- the lines of this block, after those of the blocks before it
pub loop-block-preserved : goal.loop-block-preserved
loop-block-preserved g c =
    let scene : Scene = record { structs = g.V.View.declared c.args.view.now; memory = g.V.View.memory c.args.view.now; name = g.V.View.name c.args.view.now; blocks = c.args.met.now } in
    let within = rw c.blocks-block-items.ensures.value at c.loop-block-test.true in
    let added = rw c.blocks-block-items.ensures.value at c.in_ok-put_block.ensures in
    lines_more scene c.loop-block.out c.put_block.new.out c.args.met.now c.loop-block.block-index (Input 0) within added ∙ c.loop-block.invariant

-- the loop passed all blocks, so no line is left
pub returns : goal.returns
returns g c =
    let scene : Scene = record { structs = g.V.View.declared c.args.view.now; memory = g.V.View.memory c.args.view.now; name = g.V.View.name c.args.view.now; blocks = c.args.met.now } in
    let over = rw c.blocks-block-items.ensures.value at c.loop-block-test.false in
    sym (lines_all scene c.loop-block.out c.args.met.now c.loop-block.block-index over) ∙ c.loop-block.invariant
