use Rattle.std.proofs.Common.{drop, refl}
use Rattle.ceal_theory.specs.Repair.{works}
use Rattle.ceal_adjust.proofs.MachineSteps.{read-taken}
use Rattle.ceal_adjust.specs.Machines.{code_of, state_in, machine_in}
use Rattle.ceal_adjust.proofs.repair.Repair.read_in.Goals as goal

-- an old read has the closure: it is used again, with what is inside it
pub returns-in_ok-open-in-Some-clause-turn : goal.returns-in_ok-open-in-Some-clause-turn
returns-in_ok-open-in-Some-clause-turn c =
    let old = c.args.self.now in
    let e = c.in_ok-step.ensures.work in
    rw (rw e at c.replace-below.ensures.value) at
    (read-taken (code_of old) (state_in old) (works (state_in old)) old.frames.items c.push.new.self.items (drop old.rest old.items) old.levels c.args.closure.now c.replace-below.result
    (record { value = c.in-Some.found.value; rest = drop c.in-Some.found.rest old.items; levels = c.in-Some.found.levels }) c.is_same.result c.value-now.result (machine_in c.open.new.self)
    c.value-now.ensures.value refl (rw (e, c.in-Some.is) at c.in_ok-found.ensures.value) (rw e at c.in_ok-push-in-Some.ensures.items) c.is_same.ensures
    (rw e at c.in_ok-open-in-Some.ensures.machine))
