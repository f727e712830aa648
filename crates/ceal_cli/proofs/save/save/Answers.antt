use Rattle.ceal_cli.proofs.Sessions.GrowingReplies.{writes_as}
use Rattle.ceal_cli.proofs.Outputs.OutputByMode.{saved, saved-readable}
use Rattle.ceal_cli.proofs.save.save.Goals as goal

-- a new session carries out the script, and what it has then is saved
pub returns : goal.returns
returns g c = record {
  writes = writes_as c.write_save-told.result _ _ _ _ _ _
      (saved c.args.input.bytes.now c.args.input.part c.requires.split c.args.program c.args.fuel c.requires.opens c.some_reply.ensures.begun c.kept_line.ensures.law
      c.renamed_law.ensures.law c.saved_law.ensures.law)
      (rw (← c.script-script.ensures, ← c.source-source.ensures, ← c.in_ok-session.ensures.state) c.write_save-told.ensures.writes);
  saved = saved-readable c.args.input.bytes.now c.args.input.part c.requires.split c.args.program c.args.fuel c.requires.opens c.some_reply.ensures.begun c.kept_line.ensures.law
      c.renamed_law.ensures.law c.saved_law.ensures.law c.write_save-told.result (g.K.Sink.written c.args.sink.now) (g.K.Sink.written c.write_save-told.new.sink)
      (g.K.Sink.faults c.args.sink.now) (g.K.Sink.faults c.write_save-told.new.sink)
      (rw (← c.script-script.ensures, ← c.source-source.ensures, ← c.in_ok-session.ensures.state) c.write_save-told.ensures.writes);
}
