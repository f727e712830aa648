use Rattle.std.proofs.Common.{◌≡◌, ◌||◌, ◌==◌, subst}
use Rattle.ceal_fold.specs.States.{has}
use Rattle.ceal_fold.proofs.VarSteps.{has-put}
use Rattle.ceal_fold.proofs.vars.Vars.put.Goals as goal

pub returns : goal.returns
returns c = record {
  value = λ u. subst (λ s. has c.insert.new.self.keys u ≡ (has s u || c.args.v.0 == u)) c.self.view_is
      (has-put c.self.inside.set.keys c.insert.new.self.keys c.args.v.0 u (c.in_ok-insert.ensures.updates.0 u));
}
