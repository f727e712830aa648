use Rattle.std.proofs.Common.{◌∙◌, ap}
use Rattle.ceal_base.specs.declared.word.BlockId.TheVariants.{Core}
use Rattle.ceal_code.specs.Init.{arguments, pointer}
use Rattle.ceal_code.specs.Stacks.{stack_in}
use Rattle.ceal_code.specs.Value.{set}
use Rattle.ceal_traceck.proofs.WalkSteps.{makes-more, over-is}
use Rattle.ceal_traceck.specs.Walk.{code_of, plain_of, waiting}
use Rattle.ceal_traceck.proofs.replay.Walk.make.Goals as goal

-- a step and an allocation of this key follow, and the variable gets the block that they name
pub returns-clause-turn : goal.returns-clause-turn
returns-clause-turn c =
    let w = c.args.self.now in
    let env = arguments c.args.unit.env.items in
    let number = c.in-Some-after_alloc.number in
    makes-more (code_of w) (plain_of w) c.args.key c.args.var c.args.unit.unit c.args.unit.index env (stack_in w.stack) (stack_in c.push.new.self) (waiting w.below.items)
    w.items.now c.in-Some.more.now c.in-Some-after_alloc.more.now number c.in-Some.ensures.some c.in-Some-after_alloc.ensures.some
    (c.in_ok-push.ensures.pushed
    ∙ over-is c.set.new.self c.args.unit.unit c.args.unit.index (set env c.args.var (pointer c.args.key (Core number))) (stack_in w.stack) c.in_ok-set.ensures.unit c.in_ok-set.ensures.index
    (c.in_ok-set.ensures.env ∙ ap (set env c.args.var) c.pointer_to.ensures.value))
