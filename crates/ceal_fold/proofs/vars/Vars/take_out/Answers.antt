use Rattle.std.proofs.Common.{◌≡◌, ◌&&◌, ◌==◌, not, subst}
use Rattle.ceal_fold.specs.States.{has}
use Rattle.ceal_fold.proofs.VarSteps.{has-left}
use Rattle.ceal_fold.proofs.vars.Vars.take_out.Goals as goal

pub returns : goal.returns
returns c = record {
  value = λ u. subst (λ s. has c.remove.new.self.keys u ≡ (not (c.args.v.0 == u) && has s u)) c.self.view_is
      (has-left c.self.inside.set.keys c.remove.new.self.keys c.args.v.0 u (c.remove.ensures.updates.0 u));
}
