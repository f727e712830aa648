use Rattle.ceal_session.specs.SessionState.{situation}
use Rattle.ceal_cli.proofs.Sessions.GrowingReplies.{writes_text}
use Rattle.ceal_cli.specs.ServedLines.{IsSaveAfterLines}
use Rattle.ceal_cli.specs.Lines.{script_lines}
use Rattle.ceal_cli.proofs.save.write_save.Goals as goal

-- the output is the save, or as much of it as the sink took
pub returns : goal.returns
returns g c = record {
  writes = writes_text _ _ _ _ _ (IsSaveAfterLines c.args.source.now (situation c.args.session.now) (script_lines c.args.script.now)) c.items.result.now
      (record {
        end = situation c.carry_out_all.new.session;
        carries = rw (← c.new.ensures) c.in_ok-carry_out_all.ensures.all;
        is = rw c.items.ensures.value c.in_ok-text.ensures;
      })
      c.write_all.ensures.all c.write_all.ensures.prefix c.write_all.ensures.fault c.write_all.ensures.later;
}
