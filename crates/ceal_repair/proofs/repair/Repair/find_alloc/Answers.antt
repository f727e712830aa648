use Rattle.ceal_repair.proofs.Reuse.AllocReuse.{limit-there, limit-behind}
use Rattle.ceal_repair.proofs.Runs.RepairView.{running-here}
use Rattle.ceal_repair.specs.Repairs.{code_of, inputs_of, view}
use Rattle.ceal_repair.proofs.repair.Repair.find_alloc.Goals as goal

pub find_alloc-requires-clause-after : goal.find_alloc-requires-clause-after
find_alloc-requires-clause-after c = running-here c.requires.runs.0 c.requires.runs.1 c.args.self.now c.requires.runs.2

pub find_alloc-requires-clause-until : goal.find_alloc-requires-clause-until
find_alloc-requires-clause-until c =
    let r = c.args.self.now in
    limit-there (code_of r) (inputs_of r) c.requires.runs.0 c.requires.runs.1 (view r) c.requires.runs.2 c.in-Some.limit c.in-Some.is

pub find_alloc-requires-clause-order : goal.find_alloc-requires-clause-order
find_alloc-requires-clause-order c =
    let r = c.args.self.now in
    limit-behind (code_of r) (inputs_of r) c.requires.runs.0 c.requires.runs.1 (view r) c.requires.runs.2 c.in-Some.limit c.in-Some.is
