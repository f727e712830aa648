use Rattle.std.proofs.Common.{◌∙◌}
use Rattle.ceal_cli.proofs.Sessions.GrowingReplies.{writes_text}
use Rattle.ceal_cli.proofs.Outputs.OutputByMode.{listed}
use Rattle.ceal_cli.proofs.answer.list.Goals as goal

-- the output is the listing, or as much of it as the sink took
pub returns : goal.returns
returns g c = record {
  writes = writes_text _ _ _ _ _ _ c.items.result.now
      (listed c.args.input.now c.args.program.now.typed c.requires.program c.args.program.now.code c.requires.compiled.code c.items.result.now
      (c.items.ensures.value ∙ c.in_ok-text.ensures.exact))
      c.write_all.ensures.all c.write_all.ensures.prefix c.write_all.ensures.fault c.write_all.ensures.later;
}
