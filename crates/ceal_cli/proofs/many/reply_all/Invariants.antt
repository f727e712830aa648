use Rattle.std.proofs.Common.{◌≡◌, ◌≤◌, length}
use Rattle.ceal_cli.specs.Members.{first_situation}
use Rattle.ceal_cli.proofs.Sessions.ManyReplies.{ToldSoFar}
use Rattle.ceal_cli.proofs.many.reply_all.Given as goal

-- the replies so far, and those to what is left, are those to all
abbrev pub invariant-loop-line : goal.invariant-loop-line
invariant-loop-line g l = record {
  so_far : ToldSoFar (g.K.Sink.written l.fn.sink) (g.K.Sink.written l.sink) (first_situation l.fn.many.maker) l.fn.lines l.lines l.many.sessions;
  maker : l.many.maker ≡ l.fn.many.maker;
  later : g.K.Sink.faults l.fn.sink ≤ g.K.Sink.faults l.sink;
}

abbrev pub decreases-loop-line : goal.decreases-loop-line
decreases-loop-line g l = length l.lines
