use Rattle.std.proofs.Common.{ap, drop}
use Rattle.ceal_code.specs.Init.{arguments}
use Rattle.ceal_code.specs.Stacks.{stack_in, act_in}
use Rattle.ceal_adjust.proofs.MachineSteps.{acts-makes, acts-reads, if-acts}
use Rattle.ceal_adjust.specs.Machines.{code_of, state_in, after, machine_in, turn_in}
use Rattle.ceal_adjust.proofs.repair.Repair.perform.Goals as goal

-- the unit allocates, and that is one move of the machine
pub returns-in-Makes-clause-turn : goal.returns-in-Makes-clause-turn
returns-in-Makes-clause-turn c =
    if-acts c.make.result _ _ (λ t h.
    acts-makes (code_of c.args.self.now) (state_in c.args.self.now) (after c.args.self.now c.args.self.now.levels) (drop c.args.self.now.rest c.args.self.now.items) c.args.self.now.levels
    c.in-Makes.key c.in-Makes.var c.in-Makes.unit.unit c.in-Makes.unit.index (arguments c.in-Makes.unit.env.items) (stack_in c.args.self.now.stack)
    (turn_in t (machine_in c.make.new.self)) (act_in c.args.act (stack_in c.args.self.now.stack)) (ap (λ a. act_in a (stack_in c.args.self.now.stack)) c.in-Makes.is) h) c.make.ensures.turn

-- the unit reads, and that is one move of the machine
pub returns-in-Reads-clause-turn : goal.returns-in-Reads-clause-turn
returns-in-Reads-clause-turn c =
    if-acts c.read.result _ _ (λ t h.
    acts-reads (code_of c.args.self.now) (state_in c.args.self.now) (after c.args.self.now c.args.self.now.levels) (drop c.args.self.now.rest c.args.self.now.items) c.args.self.now.levels
    c.in-Reads.closure (stack_in c.args.self.now.stack)
    (turn_in t (machine_in c.read.new.self)) (act_in c.args.act (stack_in c.args.self.now.stack)) (ap (λ a. act_in a (stack_in c.args.self.now.stack)) c.in-Reads.is) h) c.read.ensures.turn
