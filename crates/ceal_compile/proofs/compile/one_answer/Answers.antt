use Rattle.ceal_compile.proofs.Answering.{one_answer}
use Rattle.ceal_compile.proofs.compile.one_answer.Goals as goal

pub returns : goal.returns
returns c = record {
  law = one_answer c.one_split.ensures c.one_reading.ensures.list c.one_reading.ensures.fault c.one_reading.ensures.not_both
      c.one_tree.ensures.law c.one_fault.ensures.law c.not_both.ensures.law;
}
