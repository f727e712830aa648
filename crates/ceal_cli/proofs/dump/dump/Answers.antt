use Rattle.ceal_cli.proofs.Sessions.GrowingReplies.{writes_as}
use Rattle.ceal_cli.proofs.Outputs.OutputByMode.{dumped, dumped-readable}
use Rattle.ceal_cli.proofs.dump.dump.Goals as goal

-- a new session carries out the script, and the run after it is dumped
pub returns : goal.returns
returns g c =
    record {
      writes = writes_as c.write_dump-told.result _ _ _ _ _ _
          (dumped c.args.input.bytes.now c.args.input.part c.requires.split c.args.program c.args.fuel c.requires.opens c.some_reply.ensures.begun c.kept_line.ensures.law
          c.renamed_law.ensures.law)
          (rw (← c.script.ensures, ← c.in_ok-session.ensures.state) c.write_dump-told.ensures.writes);
      dumped = dumped-readable c.args.input.bytes.now c.args.input.part c.requires.split c.args.program c.args.fuel c.requires.opens c.some_reply.ensures.begun c.kept_line.ensures.law
          c.renamed_law.ensures.law c.write_dump-told.result (g.K.Sink.written c.args.sink.now) (g.K.Sink.written c.write_dump-told.new.sink)
          (g.K.Sink.faults c.args.sink.now) (g.K.Sink.faults c.write_dump-told.new.sink)
          (rw (← c.script.ensures, ← c.in_ok-session.ensures.state) c.write_dump-told.ensures.writes);
    }
