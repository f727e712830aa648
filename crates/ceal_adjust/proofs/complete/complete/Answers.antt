use Rattle.ceal_adjust.proofs.Completing.{has-completed, has-run-out}
use Rattle.ceal_adjust.specs.Machines.{code_of, state_in, machine_in}
use Rattle.ceal_adjust.proofs.complete.complete.Goals as goal

pub returns-in-None : goal.returns-in-None
returns-in-None c = has-run-out (code_of c.args.repair) c.args.fuel (machine_in c.args.repair) (rw c.in-None.is at c.in_ok-turn_to_end.ensures.beyond)

-- the machine ended within the limit, with what it wrote and its work
pub returns : goal.returns
returns c =
    rw c.new.ensures.value
    (has-completed (code_of c.args.repair) c.args.fuel (machine_in c.args.repair) c.in-Some.out.items
    (state_in c.turn_to_end.new.repair) c.work.result
    (rw c.in-Some.is at c.in_ok-turn_to_end.ensures.ended) c.work.ensures.value)
