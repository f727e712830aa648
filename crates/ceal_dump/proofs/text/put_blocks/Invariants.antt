use Rattle.std.proofs.Common.{◌≡◌, ◌++◌, length}
use Rattle.ceal_dump.specs.DumpText.{block_lines, SmallBlocks}
use Rattle.ceal_dump.proofs.text.put_blocks.Given as goal

-- with the text of what is left it is the text of all, and all is in range where what is left is
abbrev pub invariant-loop-block : goal.invariant-loop-block
invariant-loop-block l = record {
  text : l.out ++ block_lines l.blocks ≡ l.fn.out ++ block_lines l.fn.blocks;
  range : SmallBlocks l.blocks → SmallBlocks l.fn.blocks;
}

abbrev pub decreases-loop-block : goal.decreases-loop-block
decreases-loop-block l = length l.blocks
