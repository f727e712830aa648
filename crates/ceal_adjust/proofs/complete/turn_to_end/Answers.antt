use Rattle.std.proofs.Common.{◌∙◌, sym, arith}
use Rattle.ceal_base.proofs.TraceLemmas.{steps_in-append}
use Rattle.ceal_adjust.proofs.Completing.{leads-more, is-beyond, ends-at, turned}
use Rattle.ceal_adjust.proofs.MachineSteps.{work-in, state-is}
use Rattle.ceal_adjust.specs.Machines.{code_of, state_in, machine_in, written}
use Rattle.ceal_adjust.proofs.complete.turn_to_end.Goals as goal

-- more steps were counted than the limit allows, and later moves only add to them
pub returns-then-is_exceeded-clause-beyond : goal.returns-then-is_exceeded-clause-beyond
returns-then-is_exceeded-clause-beyond c =
    is-beyond (code_of c.args.repair.now) c.args.limit (machine_in c.args.repair.now) (machine_in c.loop-turn.repair) c.loop-turn.out.items c.loop-turn.steps c.work.result
    c.loop-turn.invariant.leads c.loop-turn.invariant.counted (work-in c.loop-turn.repair c.work.result c.work.ensures.value) (c.is_exceeded.ensures.more c.if-is_exceeded.true)

-- the last move ended the machine, and the moves before it led here
pub returns-in-Ended-clause-ended : goal.returns-in-Ended-clause-ended
returns-in-Ended-clause-ended c =
    ends-at (code_of c.args.repair.now) c.args.limit (machine_in c.args.repair.now) (machine_in c.loop-turn.repair) c.loop-turn.out.items c.loop-turn.steps c.work.result (state_in c.turn.new.self)
    c.loop-turn.invariant.leads c.loop-turn.invariant.counted (work-in c.loop-turn.repair c.work.result c.work.ensures.value) (c.is_exceeded.ensures.within c.if-is_exceeded.false)
    (turned (code_of c.args.repair.now) (code_of c.loop-turn.repair) (machine_in c.loop-turn.repair) _ c.loop-turn.invariant.code (rw c.in-Ended.is at c.in_ok-turn.ensures.turn))
    (state-is c.loop-turn.repair ∙ sym (c.in_ok-turn.ensures.still c.in-Ended.is))

-- one move more, with what it wrote
pub loop-turn-preserved : goal.loop-turn-preserved
loop-turn-preserved c = record {
  code = c.in_ok-turn.ensures.code ∙ c.loop-turn.invariant.code;
  leads = rw c.in_ok-write-in-Went.ensures
      (leads-more (code_of c.args.repair.now) (machine_in c.args.repair.now) (machine_in c.loop-turn.repair)
      (machine_in c.turn.new.self) c.loop-turn.out.items (written c.in-Went.stepped c.in-Went.item)
      c.loop-turn.invariant.leads (turned (code_of c.args.repair.now) (code_of c.loop-turn.repair)
      (machine_in c.loop-turn.repair) _ c.loop-turn.invariant.code
      (rw c.in-Went.is at c.in_ok-turn.ensures.turn)));
  counted = rw (c.in_ok-write-in-Went.ensures, steps_in-append c.loop-turn.out.items (written c.in-Went.stepped c.in-Went.item))
      (omega (arith, c.in_ok-steps-in-Went.ensures, c.loop-turn.invariant.counted, c.steps_among.ensures));
}
