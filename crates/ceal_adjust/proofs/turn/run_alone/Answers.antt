use Rattle.std.proofs.Common.{◌∙◌, ap, arith}
use Rattle.ceal_base.specs.declared.word.BlockId.TheVariants.{Core}
use Rattle.ceal_code.specs.Tables.{code_in, plain_in}
use Rattle.ceal_adjust.proofs.MachineSteps.{alone-begins}
use Rattle.ceal_adjust.proofs.Sliced.{beyond-there, ends-there, is-ran}
use Rattle.ceal_adjust.specs.Alone.{alone, state_of}
use Rattle.ceal_adjust.specs.Machines.{code_of, state_in, machine_in}
use Rattle.ceal_adjust.specs.declared.complete.Limit.TheVariants.{Work}
use Rattle.ceal_adjust.proofs.turn.run_alone.Goals as goal

-- more is re-executed than the fuel allows
pub returns-in_default : goal.returns-in_default
returns-in_default c =
    beyond-there (code_in c.args.memory) (code_of c.alone-unit.result) (Work c.args.fuel)
    (machine_in c.alone-unit.result) (alone (code_in c.args.memory)
    (state_of c.args.memory c.args.repair.now) c.args.stale.now)
    c.alone-unit.ensures.code
    (c.alone-unit.ensures.machine
    ∙ alone-begins (code_in c.args.memory) c.code.result.now
    (state_of c.args.memory c.args.repair.now) c.in_ok-old.old c.args.stale.now.after.now c.resume.new.self c.empty-stack.result c.args.stale.now.closure c.args.stale.now.content
    c.code.ensures.value (rw (
      c.continuation.ensures.unit,
      c.continuation.ensures.var,
      c.continuation.ensures.args,
    ) at c.in_ok-resume.ensures.resumed) c.empty-stack.ensures.empty c.in_ok-old.ensures.value)
    (rw c.in_default.is at c.in_ok-inside.ensures.beyond)

-- the unit ran to its end over what is inside the read
pub returns : goal.returns
returns c =
    is-ran (code_in c.args.memory) c.args.fuel (alone (code_in c.args.memory) (state_of c.args.memory c.args.repair.now) c.args.stale.now) (state_in c.turn_to_end.new.repair) _
    (ends-there (code_in c.args.memory) (code_of c.alone-unit.result) (Work c.args.fuel)
    (machine_in c.alone-unit.result) (alone (code_in c.args.memory)
    (state_of c.args.memory c.args.repair.now) c.args.stale.now) c.in-Some.inside.items
    (state_in c.turn_to_end.new.repair) c.alone-unit.ensures.code
    (c.alone-unit.ensures.machine
    ∙ alone-begins (code_in c.args.memory) c.code.result.now
    (state_of c.args.memory c.args.repair.now) c.in_ok-old.old c.args.stale.now.after.now c.resume.new.self c.empty-stack.result c.args.stale.now.closure c.args.stale.now.content
    c.code.ensures.value (rw (
      c.continuation.ensures.unit,
      c.continuation.ensures.var,
      c.continuation.ensures.args,
    ) at c.in_ok-resume.ensures.resumed) c.empty-stack.ensures.empty c.in_ok-old.ensures.value)
    (rw c.in-Some.is at c.in_ok-inside.ensures.ended))
    c.number-2.ensures.value c.work.ensures.value
    (λ b l. c.in_ok-known.ensures.below b (omega (arith, l, c.number.ensures.value, c.number-2.ensures.value)) ∙ ap (λ m. plain_in m (Core b)) c.memory.ensures.value)
    (λ b l. c.in_ok-known.ensures.others b (omega (arith, l, c.number.ensures.value, c.number-2.ensures.value)))
