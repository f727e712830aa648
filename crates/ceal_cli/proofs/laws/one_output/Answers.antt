use Rattle.ceal_cli.proofs.Outputs.OneOutput.{one-output}
use Rattle.ceal_cli.proofs.Outputs.OneRecord.{Once}
use Rattle.ceal_cli.proofs.laws.one_output.Goals as goal

-- an input has one split, one code and one list of replies, so it has one output
pub returns : goal.returns
returns c =
    let once : Once = record {
      records = c.one_record_law.ensures.law;
      dumps = c.one_record_law-2.ensures.law;
      verdicts = c.one_verdict_law.ensures.law;
      sessions = c.one_reply-2.ensures.reply;
      saves = c.one_save_law.ensures.law;
    } in record {
      law = one-output c.one_split.ensures c.one_answer.ensures.law c.one_code.ensures.law c.one_reply.ensures.reply c.one_script.ensures.law once;
    }
