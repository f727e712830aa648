use Rattle.std.proofs.Common.{◌≤◌, length}
use Rattle.ceal_session.specs.SessionState.{situation}
use Rattle.ceal_cli.proofs.Sessions.GrowingReplies.{SoFar}
use Rattle.ceal_cli.proofs.replies.reply_all.Given as goal

-- the replies so far, and those to what is left, are those to all
abbrev pub invariant-loop-line : goal.invariant-loop-line
invariant-loop-line g l = record {
  so_far : SoFar (g.K.Sink.written l.fn.sink) (g.K.Sink.written l.sink) (situation l.fn.session) (situation l.session) l.fn.lines l.lines;
  later : g.K.Sink.faults l.fn.sink ≤ g.K.Sink.faults l.sink;
}

abbrev pub decreases-loop-line : goal.decreases-loop-line
decreases-loop-line g l = length l.lines
