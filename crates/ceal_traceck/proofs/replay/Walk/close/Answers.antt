use Rattle.std.proofs.Common.{length, arith, ◌∙◌, ap}
use Rattle.ceal_code.specs.Stacks.{stack_in}
use Rattle.ceal_traceck.proofs.MemorySteps.{zero-told, told-zero, empty-list}
use Rattle.ceal_traceck.proofs.WalkSteps.{over-right, over-wrong, over-more, waiting-empty, waiting-push}
use Rattle.ceal_traceck.specs.Walk.{code_of, plain_of, waiting}
use Rattle.ceal_traceck.proofs.replay.Walk.close.Goals as goal

-- no read is open: the call is over, rightly exactly when no item is left
pub returns-in-None-clause-turn : goal.returns-in-None-clause-turn
returns-in-None-clause-turn c =
    let w = c.args.self.now in
    over-right (code_of w) (plain_of w) (waiting w.below.items) w.items.now c.is_empty.result ⊥ (waiting-empty w.below.items (omega (arith, w.below.ok.0, c.in-None.ensures.cases.0)))
    (λ t. empty-list w.items.now (zero-told (length w.items.now) c.is_empty.result c.is_empty.ensures t)) (λ e. told-zero (length w.items.now) c.is_empty.result c.is_empty.ensures (ap length e))

-- a read is open, and no end of a read follows
pub returns-in-None-after_end-clause-turn : goal.returns-in-None-after_end-clause-turn
returns-in-None-after_end-clause-turn c =
    let w = c.args.self.now in
    over-wrong (code_of w) (plain_of w) (stack_in c.in-Some.stack) (waiting c.pop.new.self.items) (waiting w.below.items) w.items.now ⊥
    (ap waiting c.in-Some.ensures.items ∙ waiting-push c.pop.new.self.items c.in-Some.stack) c.in-None-after_end.ensures.none

-- the end of the innermost open read follows, and the unit around it continues
pub returns-in-Some-after_end-clause-turn : goal.returns-in-Some-after_end-clause-turn
returns-in-Some-after_end-clause-turn c =
    let w = c.args.self.now in
    over-more (code_of w) (plain_of w) (stack_in c.in-Some.stack) (waiting c.pop.new.self.items) (waiting w.below.items) w.items.now c.in-Some-after_end.more.now
    (ap waiting c.in-Some.ensures.items ∙ waiting-push c.pop.new.self.items c.in-Some.stack) c.in-Some-after_end.ensures.some
