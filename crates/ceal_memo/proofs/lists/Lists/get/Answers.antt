use Rattle.std.proofs.Common.{◌≡◌, ◌≢◌, ◌<◌, true, List, ℕ, length, sym, ap, subst, ◌∙◌}
use Rattle.ceal_memo.specs.declared.chains.Group.{Group}
use Rattle.ceal_memo.specs.Chains.{group_at, stamped}
use Rattle.ceal_memo.proofs.Grouping.{group_is}
use Rattle.ceal_memo.proofs.Listing.{list_found, none_found}
use Rattle.ceal_memo.proofs.lists.Lists.get.Goals as goal

pub returns-in-Some-clause-some : goal.returns-in-Some-clause-some
returns-in-Some-clause-some c =
    let groups = c.self.inside.groups.items in
    let number = c.in-Some.number in
    let within = subst (λ (gs : List Group). number < length gs) c.deref-2.ensures.value c.in-Some.ensures.within in
    let stamps = subst (λ (gs : List Group). stamped gs number ≡ true) c.deref-2.ensures.value c.in-Some.ensures.stamps in
    let hash = subst (λ (gs : List Group). (group_at gs number).hash ≡ c.args.hash) c.deref-2.ensures.value c.in-Some.ensures.hash in
    let unique = rw (← c.self.view_is) at c.requires.unique in
    rw (← c.self.view_is) (ap (λ (g : Group). g.list) (c.index.ensures ∙ group_is groups number c.index.result.now within) ∙ sym (list_found groups number c.args.hash unique within stamps hash))

pub returns-in-None-clause-none : goal.returns-in-None-clause-none
returns-in-None-clause-none c =
    let none = subst (λ (gs : List Group). (n : ℕ) → stamped gs n ≡ true → (group_at gs n).hash ≢ c.args.hash) c.deref-2.ensures.value c.in-None.ensures.none in
    rw (← c.self.view_is) (none_found c.self.inside.groups.items c.args.hash none)
