use Rattle.ceal_cli.proofs.Sessions.GrowingReplies.{writes_text}
use Rattle.ceal_cli.proofs.Outputs.OutputByMode.{accepted}
use Rattle.ceal_cli.proofs.answer.accept.Goals as goal

pub returns : goal.returns
returns g c = record {
  writes = writes_text _ _ _ _ _ _ _ (accepted c.args.input.now c.args.program.now c.requires)
      c.write_all.ensures.all c.write_all.ensures.prefix c.write_all.ensures.fault c.write_all.ensures.later;
}
