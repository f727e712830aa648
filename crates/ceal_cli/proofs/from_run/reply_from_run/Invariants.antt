use Rattle.std.proofs.Common.{◌≡◌, length}
use Rattle.ceal_session.specs.SessionState.{situation}
use Rattle.ceal_cli.proofs.Sessions.RepliesFromFirstRun.{Before}
use Rattle.ceal_cli.proofs.from_run.reply_from_run.Given as goal

-- the lines before what is left were answered, none of them is a run, and nothing was written
abbrev pub invariant-loop-line : goal.invariant-loop-line
invariant-loop-line g l = record {
  before : Before (situation l.fn.session) (situation l.session) l.fn.lines l.lines;
  same : l.sink ≡ l.fn.sink;
}

abbrev pub decreases-loop-line : goal.decreases-loop-line
decreases-loop-line g l = length l.lines
