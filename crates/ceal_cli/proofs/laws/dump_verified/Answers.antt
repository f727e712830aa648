use Rattle.ceal_cli.proofs.Outputs.DumpBesideSave.{dump-verified}
use Rattle.ceal_cli.proofs.Outputs.FirstScript.{Known}
use Rattle.ceal_cli.proofs.laws.dump_verified.Goals as goal

-- what was dumped is read back as the record of a run, and such a record is verified
pub returns : goal.returns
returns c =
    let known : Known = record {
      split = c.one_split.ensures;
      answer = c.one_answer.ensures.law;
      code = c.one_code.ensures.law;
      compiled = c.accepted_is_compiled.ensures.some;
      begins = c.some_reply.ensures.begun;
      scripts = c.some_reply.ensures.script;
      once = c.one_script.ensures.law;
      resumes = c.resumed_law.ensures.law;
    } in record { law = dump-verified known }
