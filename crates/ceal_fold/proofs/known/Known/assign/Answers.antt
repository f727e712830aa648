use Rattle.std.proofs.Common.{ℕ, ◌<◌, [], unwrap_or, ap, ◌∙◌, sym, subst}
use Rattle.ceal_fold.specs.Folding.{copies_with}
use Rattle.ceal_fold.specs.States.{last_of, time, copy_at}
use Rattle.ceal_fold.proofs.KnownSteps.{assigned-times, assigned-copies}
use Rattle.ceal_fold.proofs.known.Known.assign.Goals as goal

-- the new assignment is the last one of its variable, and copies of that variable are over
pub returns-in_ok-put-in-Some-clause-value : goal.returns-in_ok-put-in-Some-clause-value
returns-in_ok-put-in-Some-clause-value c =
    let was = ap (λ shared. unwrap_or shared []) (sym c.in-Some.is) ∙ c.self.view_is in
    let put = assigned-copies c.in-Some.shared c.put.new.self c.args.v.0 c.args.at c.args.copy c.in_ok-put-in-Some.ensures.value
    (subst (λ s. (u : ℕ) → time (last_of s u) < c.args.at) (sym was) c.requires.earlier) c.requires.other in
    put ∙ ap (λ s. copies_with (copy_at s) c.args.v.0 c.args.copy) was

-- times rise: the new one is later than all others
pub returns-in_ok-put-in-Some-clause-times : goal.returns-in_ok-put-in-Some-clause-times
returns-in_ok-put-in-Some-clause-times c =
    let was = ap (λ shared. unwrap_or shared []) (sym c.in-Some.is) ∙ c.self.view_is in
    assigned-times c.in-Some.shared c.put.new.self c.args.v.0 c.args.at c.args.copy c.in_ok-put-in-Some.ensures.value
    (subst (λ s. (u : ℕ) → time (last_of s u) < c.args.at) (sym was) c.requires.earlier)

-- the same, where nothing was assigned before
pub returns-in_ok-begun-in-None-clause-value : goal.returns-in_ok-begun-in-None-clause-value
returns-in_ok-begun-in-None-clause-value c =
    let was = ap (λ shared. unwrap_or shared []) (sym c.in-None.is) ∙ c.self.view_is in
    let put = assigned-copies [] c.in_ok-begun-in-None.field-0 c.args.v.0 c.args.at c.args.copy c.in_ok-begun-in-None.ensures.value
    (subst (λ s. (u : ℕ) → time (last_of s u) < c.args.at) (sym was) c.requires.earlier) c.requires.other in
    put ∙ ap (λ s. copies_with (copy_at s) c.args.v.0 c.args.copy) was

-- the new time is the only one
pub returns-in_ok-begun-in-None-clause-times : goal.returns-in_ok-begun-in-None-clause-times
returns-in_ok-begun-in-None-clause-times c =
    let was = ap (λ shared. unwrap_or shared []) (sym c.in-None.is) ∙ c.self.view_is in
    assigned-times [] c.in_ok-begun-in-None.field-0 c.args.v.0 c.args.at c.args.copy c.in_ok-begun-in-None.ensures.value
    (subst (λ s. (u : ℕ) → time (last_of s u) < c.args.at) (sym was) c.requires.earlier)
