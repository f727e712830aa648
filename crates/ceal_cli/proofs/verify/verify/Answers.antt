use Rattle.ceal_cli.proofs.Sessions.GrowingReplies.{writes_text}
use Rattle.ceal_cli.proofs.Outputs.OutputByMode.{checked}
use Rattle.ceal_cli.proofs.verify.verify.Goals as goal

-- the output is the verdict, or as much of it as the sink took
pub returns : goal.returns
returns g c = record {
  writes = writes_text _ _ _ _ _ _ c.in_ok-line.line.now
      (checked c.args.input.bytes.now c.args.input.part c.requires.split c.args.program.now c.requires.program c.requires.compiled c.in_ok-line.line.now
      (rw (← c.script.ensures) c.in_ok-line.ensures))
      (rw c.as_bytes.ensures.value at c.write_all.ensures.all) (rw c.as_bytes.ensures.value at c.write_all.ensures.prefix)
      c.write_all.ensures.fault c.write_all.ensures.later;
}
