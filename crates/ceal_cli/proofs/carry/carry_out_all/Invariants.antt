use Rattle.std.proofs.Common.{length}
use Rattle.ceal_session.specs.SessionState.{situation}
use Rattle.ceal_cli.proofs.Sessions.CarriedLines.{CarriedSoFar}
use Rattle.ceal_cli.proofs.carry.carry_out_all.Given as goal

-- the lines before what is left were carried out
abbrev pub invariant-loop-line : goal.invariant-loop-line
invariant-loop-line l = CarriedSoFar (situation l.fn.session) (situation l.session) l.fn.lines l.lines

abbrev pub decreases-loop-line : goal.decreases-loop-line
decreases-loop-line l = length l.lines
