use Rattle.std.proofs.Common.{rules, ◌≡◌, ◌||◌, length, subst}
use Rattle.ceal_fold.specs.States.{has}
use Rattle.ceal_fold.proofs.VarSteps.{add-on, add-over}
use Rattle.ceal_fold.proofs.vars.Vars.add.Goals as goal

-- one variable goes from the rest into the set, so both together stay the same
pub loop-v-preserved : goal.loop-v-preserved
loop-v-preserved c = λ u.
    add-on c.loop-v.self-inside.set.keys c.insert.new.self.keys c.loop-v.rest-inside.set.keys c.pop_first.new.self.keys c.in-Some.v u _
    c.in-Some.ensures.removal (c.in_ok-insert.ensures.updates.0 u) (c.loop-v.invariant u)

-- the rest is empty, so the set has both
pub returns : goal.returns
returns c =
    let none : length c.loop-v.rest-inside.set.keys ≡ 0 = search rules in
    record {
      value = λ u.
          subst (λ s. has c.loop-v.self-inside.set.keys u ≡ (has s u || has c.args.other u)) c.self.view_is
          (subst (λ t. has c.loop-v.self-inside.set.keys u ≡ (has c.self.inside.set.keys u || has t u)) c.rest.view_is
          (add-over c.loop-v.self-inside.set.keys c.loop-v.rest-inside.set.keys u _ none (c.loop-v.invariant u)));
    }
