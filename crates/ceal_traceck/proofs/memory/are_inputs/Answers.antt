use Rattle.std.proofs.Common.{◌∙◌, sym}
use Rattle.std.proofs.lemmas.Bool.{false≢true}
use Rattle.ceal_base.specs.declared.word.BlockId.TheVariants.{Input}
use Rattle.ceal_code.specs.Tables.{memory_in}
use Rattle.ceal_traceck.proofs.MemorySteps.{told-no, blocks-wrong, blocks-more, rest-more}
use Rattle.ceal_traceck.proofs.memory.are_inputs.Goals as goal

-- this block differs, so not all of them agree
pub returns-then-not-branch : goal.returns-then-not-branch
returns-then-not-branch c =
    told-no (blocks-wrong (λ i. memory_in c.args.memory.now (Input i)) c.args.blocks.now c.loop-block.number c.loop-block.blocks.now c.loop-block.invariant.rest
    c.in-Some.block.now c.in-Some.more.now c.in-Some.ensures.cases.0 (λ h. false≢true (sym c.if-not-branch.true ∙ c.in_ok-is_block.ensures.1 h)))

-- this block agrees too, and so do those before it
pub loop-block-preserved : goal.loop-block-preserved
loop-block-preserved c = record {
  rest = rest-more c.loop-block.number c.in_ok-number.number c.args.blocks.now c.loop-block.blocks.now
      c.in-Some.more.now c.in-Some.block.now c.loop-block.invariant.rest c.in-Some.ensures.cases.0
      c.in_ok-number.ensures;
  same = blocks-more (λ i. memory_in c.args.memory.now (Input i)) c.args.blocks.now c.loop-block.number c.loop-block.blocks.now c.loop-block.invariant.rest
      c.in-Some.block.now c.in-Some.more.now c.in_ok-number.number c.in-Some.ensures.cases.0 (c.in_ok-is_block.ensures.0 c.if-not-branch.false) c.in_ok-number.ensures c.loop-block.invariant.same;
}
