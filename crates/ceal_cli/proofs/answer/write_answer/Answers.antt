use Rattle.std.proofs.Common.{subst}
use Rattle.ceal_cli.specs.ServedLines.{StopsBetween}
use Rattle.ceal_cli.proofs.Sessions.GrowingReplies.{untold}
use Rattle.ceal_cli.proofs.answer.write_answer.Goals as goal

pub returns-in-Check-clause-taken : goal.returns-in-Check-clause-taken
returns-in-Check-clause-taken g c = rw (c.in-Check.is, ← c.new-input.ensures.bytes) c.check.ensures.taken

pub returns-in-Check-clause-writes : goal.returns-in-Check-clause-writes
returns-in-Check-clause-writes g c = rw (c.in-Check.is, ← c.new-input.ensures.bytes) c.check.ensures.writes

pub returns-in-Check-clause-readable : goal.returns-in-Check-clause-readable
returns-in-Check-clause-readable g c = rw c.in-Check.is (untold c.check.result)

pub returns : goal.returns
returns g c = record {
  taken = rw (← c.new-input.ensures.bytes) c.compiled.ensures.taken;
  writes = rw (← c.new-input.ensures.bytes) c.compiled.ensures.writes;
  readable = rw (← c.new-input.ensures.bytes) c.compiled.ensures.readable;
  cut =
      subst (λ input. StopsBetween c.compiled.result g.K.Sink.takes_memory (g.K.Sink.written c.args.sink.now) (g.K.Sink.written c.compiled.new.sink) c.args.mode input)
      c.new-input.ensures.bytes c.compiled.ensures.cut;
}

pub returns-in-Check-clause-cut : goal.returns-in-Check-clause-cut
returns-in-Check-clause-cut g c = λ _ _ fuel is. absurd (cc (c.in-Check.is, is))
