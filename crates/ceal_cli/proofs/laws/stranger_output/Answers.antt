use Rattle.ceal_cli.proofs.Outputs.StrangersReplies.{stranger-output}
use Rattle.ceal_cli.proofs.laws.stranger_output.Goals as goal

pub returns : goal.returns
returns c = record {
  law = stranger-output c.one_split.ensures c.one_answer.ensures.law c.one_code.ensures.law c.accepted_is_compiled.ensures.some
      c.some_reply.ensures.reply c.one_reply.ensures.reply c.stranger_law.ensures.law;
}
