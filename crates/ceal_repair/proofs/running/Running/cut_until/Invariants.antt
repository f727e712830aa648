use Rattle.ceal_repair.proofs.Revocation.UpToNode.{Revoking}
use Rattle.ceal_repair.proofs.running.Running.cut_until.Given as goal

abbrev pub invariant-loop-revoked : goal.invariant-loop-revoked
invariant-loop-revoked l = Revoking l.cursor.0 l.until.0 l.fn.self l.self
