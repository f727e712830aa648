use Rattle.std.proofs.Common.{◌++◌}
use Rattle.ceal_dump.proofs.Ranges.{blocks-in, blocks-out}
use Rattle.ceal_dump.proofs.Steps.{blocks-more, blocks-end}
use Rattle.ceal_dump.specs.DumpText.{block_lines}
use Rattle.ceal_dump.proofs.text.put_blocks.Goals as goal

-- the line of this block, after those of the blocks before it; all are in range if these are
pub loop-block-preserved : goal.loop-block-preserved
loop-block-preserved c = record {
  text = blocks-more c.loop-block.out c.put_line.new.out (c.args.out.now ++ block_lines c.args.blocks.now) c.loop-block.blocks.now c.in-Some.more.now c.in-Some.block.now
      c.in_ok-put_line.ensures.text c.in-Some.ensures.cases.0 c.loop-block.invariant.text;
  range = λ h. c.loop-block.invariant.range (blocks-in c.loop-block.blocks.now c.in-Some.more.now c.in-Some.block.now c.in-Some.ensures.cases.0 c.in_ok-put_line.ensures.range h);
}

pub returns-clause-text : goal.returns-clause-text
returns-clause-text c = blocks-end c.loop-block.out (c.args.out.now ++ block_lines c.args.blocks.now) c.loop-block.blocks.now c.in_default.ensures.cases c.loop-block.invariant.text

pub returns-clause-range : goal.returns-clause-range
returns-clause-range c = c.loop-block.invariant.range (blocks-out c.loop-block.blocks.now c.in_default.ensures.cases)
