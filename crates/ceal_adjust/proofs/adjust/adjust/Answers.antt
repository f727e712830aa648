use Rattle.std.proofs.Common.{◌∙◌, ap, sym}
use Rattle.ceal_code.specs.Tables.{plain_in, plain_flat, store_in}
use Rattle.ceal_adjust.proofs.Completing.{begin-fix, adjust-answer}
use Rattle.ceal_adjust.proofs.Starting.{fix-begins, answered-by}
use Rattle.ceal_adjust.specs.Machines.{code_of, machine_in}
use Rattle.ceal_adjust.proofs.adjust.adjust.Goals as goal

-- the machine ended, and wrote the repair, or it wrote more steps than the fuel, and so does each repair
pub returns : goal.returns
returns c = record {
  answer = λ old f args l flat edited. adjust-answer c.args.code.now old c.args.inputs.now f args l c.args.next edited c.args.fuel c.in_ok-answer.answer
      (answered-by c.args.code.now (code_of c.new-repair.result) c.args.fuel (machine_in c.new-repair.result) (begin-fix c.args.code.now c.args.inputs.now l c.args.next) c.in_ok-answer.answer
      (c.new-repair.ensures.code ∙ (c.in_ok-learn_items.ensures.code ∙ c.new-memory.ensures.code))
      (c.new-repair.ensures.machine
      ∙ fix-begins c.args.code.now c.args.inputs.now l c.args.next c.in_ok-old.old (plain_in c.learn_items.new.self) (plain_in c.new-memory.result) (store_in c.learn_items.new.self) c.empty.result
      (c.in_ok-old.ensures.value ∙ (c.items-2.ensures.value ∙ flat)) (c.in_ok-learn_items.ensures.store ∙ c.new-memory.ensures.store) c.new-memory.ensures.plain
      (c.in_ok-learn_items.ensures.plain
      ∙ (ap (λ k. plain_flat k (plain_in c.new-memory.result) c.items.result.now) c.new-memory.ensures.code
      ∙ ap (plain_flat c.args.code.now (plain_in c.new-memory.result)) (c.items.ensures.value ∙ (sym c.items-2.ensures.value ∙ sym c.in_ok-old.ensures.value)))))
      c.in_ok-answer.ensures);
}
