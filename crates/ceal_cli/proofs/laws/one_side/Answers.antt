use Rattle.ceal_cli.proofs.Inputs.AnswerOrRefusal.{answered, untaken}
use Rattle.ceal_cli.proofs.laws.one_side.Goals as goal

pub returns : goal.returns
returns c = record {
  answered = answered c.one_split.ensures c.one_answer.ensures.law c.one_code.ensures.law c.one_save_law.ensures.law;
  refused = untaken;
}
