use Rattle.std.proofs.Common.{◌<◌, ◌++◌, length, take, ap, ◌∙◌, arith}
use Rattle.std.proofs.lemmas.List.{take_more}
use Rattle.ceal_flow.specs.Live.{uses}
use Rattle.ceal_flow.specs.Sets.{is_in}
use Rattle.ceal_live.proofs.BeginFacts.{begun-push}
use Rattle.ceal_live.proofs.uses.used_sets.Goals as goal

-- the set of this block, after those of the blocks before it
pub loop-block-preserved : goal.loop-block-preserved
loop-block-preserved c =
    let blocks = c.args.blocks.now in
    let i = c.loop-block.block-index in
    let block = c.block-item.result in
    let within : c.loop-block.block-index < length c.args.blocks.now = omega arith in
    let used_is = c.as_slice.ensures.value ∙ c.in_ok-put_uses.ensures ∙ ap (λ ns. ns ++ uses block) c.clear.ensures.items in
    rw (take_more blocks i block within, ← c.block-item.is, c.in_ok-push.ensures.items)
    (begun-push (take i blocks) c.loop-block.sets.items block _ c.loop-block.invariant c.in_ok-set_of.ensures.ascending c.in_ok-set_of.ensures.few
    (λ v. c.in_ok-set_of.ensures.all v ∙ ap (is_in v) used_is))
