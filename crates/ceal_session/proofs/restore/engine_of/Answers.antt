use Rattle.std.proofs.Common.{subst, sym}
use Rattle.ceal_engine.specs.Repaired.{IsRestorable}
use Rattle.ceal_session.proofs.Saves.SaveThatHolds.{restorable}
use Rattle.ceal_snap.specs.SaveText.{Save}
use Rattle.ceal_session.proofs.restore.engine_of.Goals as goal

pub restore-requires-clause-trace : goal.restore-requires-clause-trace
restore-requires-clause-trace c =
    rw c.items-2.ensures.value
    (subst (λ (s : Save). IsRestorable c.args.code s.fuel s.kept.inputs s.kept.function s.kept.args s.kept.forest) (sym c.saved.view_is)
    (restorable c.args.code c.args.saved.now c.requires.holds))
