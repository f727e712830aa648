use Rattle.ceal_code.specs.Init.{arguments}
use Rattle.ceal_adjust.proofs.MachineSteps.{make-some}
use Rattle.ceal_adjust.proofs.repair.Repair.make_block.Goals as goal

-- an old allocation has the key: its block is used again, and the items after it are left over
pub returns-in_ok-go_on_with-in-Some-clause-turn : goal.returns-in_ok-go_on_with-in-Some-clause-turn
returns-in_ok-go_on_with-in-Some-clause-turn c =
    make-some c.args.self.now c.step.new.self c.go_on_with.new.self c.args.key.now c.args.var c.args.unit.unit c.args.unit.index (arguments c.args.unit.env.items)
    c.in-Some.found.block c.in-Some.found.rest c.in-Some.found.levels c.requires.running c.in_ok-step.ensures.work
    c.in_ok-go_on_with-in-Some.ensures.rest c.in_ok-go_on_with-in-Some.ensures.state c.in_ok-go_on_with-in-Some.ensures.stack (rw c.in-Some.is at c.in_ok-found.ensures.value)
