use Rattle.ceal_cli.proofs.Outputs.OutputByMode.{from_run}
use Rattle.ceal_cli.proofs.generate.run.Goals as goal

-- a new session carries out the workload's script, and the replies from its first `run` on are written
pub returns : goal.returns
returns g c = record {
  writes = from_run c.args.input.bytes.now c.args.input.part c.requires.split c.args.program c.requires.program c.requires.compiled c.some_reply.ensures.begun c.kept_line.ensures.law
      c.reply_from_run-told.result _ _ _ _ c.some_reply.ensures.reply c.some_reply.ensures.script
      (rw (← c.script.ensures, ← c.new-lines.ensures, ← c.in_ok-session.ensures.state) c.reply_from_run-told.ensures.writes);
}
