use Rattle.std.proofs.Common.{◌∙◌}
use Rattle.ceal_code.specs.Tables.{plain_in, store_in}
use Rattle.ceal_adjust.proofs.Completing.{begin, first-answer}
use Rattle.ceal_adjust.proofs.Starting.{first-begins, answered-by}
use Rattle.ceal_adjust.specs.Machines.{code_of, machine_in}
use Rattle.ceal_adjust.proofs.adjust.first_forest.Goals as goal

-- the same, where nothing is left over: what the machine writes is the first trace
pub returns : goal.returns
returns c = record {
  answer = first-answer c.args.code.now c.args.inputs.now c.args.function c.args.args.now c.requires.fits c.args.fuel c.in_ok-answer.answer
      (answered-by c.args.code.now (code_of c.new-repair.result) c.args.fuel (machine_in c.new-repair.result)
      (begin c.args.code.now c.args.inputs.now c.args.function c.args.args.now) c.in_ok-answer.answer
      (c.new-repair.ensures.code ∙ c.new-memory.ensures.code)
      (c.new-repair.ensures.machine
      ∙ first-begins c.args.code.now c.args.inputs.now c.args.function c.args.args.now (plain_in c.new-memory.result) (store_in c.new-memory.result) c.in_ok-stack.stack c.in_ok-old.old
      c.new-memory.ensures.store c.new-memory.ensures.plain c.in_ok-stack.ensures.started)
      c.in_ok-answer.ensures);
}
