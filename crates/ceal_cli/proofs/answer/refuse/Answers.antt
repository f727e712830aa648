use Rattle.std.proofs.Common.{◌∙◌}
use Rattle.ceal_cli.proofs.Sessions.GrowingReplies.{writes_text}
use Rattle.ceal_cli.proofs.Outputs.OutputByMode.{refused}
use Rattle.ceal_cli.proofs.answer.refuse.Goals as goal

-- the output is the line of the fault, or as much of it as the sink took
pub returns : goal.returns
returns g c = record {
  writes = writes_text _ _ _ _ _ _ c.items.result.now
      (refused c.args.input.now c.args.mode c.requires.reads c.args.fault c.requires.first c.items.result.now
      (c.items.ensures.value ∙ c.in_ok-line.ensures.text))
      c.write_all.ensures.all c.write_all.ensures.prefix c.write_all.ensures.fault c.write_all.ensures.later;
  memory = λ is own. absurd (own (c.write_all.ensures.memory is));
}
