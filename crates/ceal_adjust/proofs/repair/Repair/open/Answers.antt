use Rattle.std.proofs.Common.{drop}
use Rattle.ceal_adjust.proofs.MachineSteps.{open-stale}
use Rattle.ceal_adjust.specs.Machines.{state_in}
use Rattle.ceal_adjust.proofs.repair.Repair.open.Goals as goal

-- the value differs, so the read's unit runs, with the old items inside it left over
pub returns-clause-machine : goal.returns-clause-machine
returns-clause-machine c =
    rw c.code.ensures.value at (open-stale c.code.result.now (state_in c.args.self.now) c.args.self.now.frames.items
    (drop c.args.self.now.rest c.args.self.now.items) c.resume.new.self c.empty-stack.result
    c.args.same c.args.closure.now c.args.now c.if-same.false
    (rw (
      c.continuation.ensures.unit,
      c.continuation.ensures.var,
      c.continuation.ensures.args,
    ) at c.in_ok-resume.ensures.resumed) c.empty-stack.ensures.empty)
