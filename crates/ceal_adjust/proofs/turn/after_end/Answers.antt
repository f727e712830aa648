use Rattle.std.proofs.Common.{◌∙◌, sym, arith}
use Rattle.ceal_adjust.proofs.Fronts.{skipped-empty, skipped-none}
use Rattle.ceal_theory.proofs.Reuse.FlatTake.{skipped-next}
use Rattle.ceal_adjust.proofs.turn.after_end.Goals as goal

pub returns-in_default : goal.returns-in_default
returns-in_default c = sym (skipped-empty c.loop-levels.levels c.loop-levels.items.now c.in_default.ensures.cases) ∙ c.loop-levels.invariant

-- one item is passed, with the level that it opens or closes
pub loop-levels-preserved : goal.loop-levels-preserved
loop-levels-preserved c =
    skipped-next c.loop-levels.levels c.in_ok-levels.levels c.loop-levels.items.now c.in-Some.item.now c.in-Some.more.now c.in-Some.ensures.cases.0
    (omega (arith, c.loop-levels-test.true)) c.in_ok-levels.ensures ∙ c.loop-levels.invariant

pub returns : goal.returns
returns c = sym (skipped-none c.loop-levels.levels c.loop-levels.items.now (omega (arith, c.loop-levels-test.false))) ∙ c.loop-levels.invariant
