use Rattle.std.proofs.Common.{◌≤◌, ◌<◌, length, ap, ◌∙◌, arith}
use Rattle.ceal_memo.specs.declared.chains.Group.{Group}
use Rattle.ceal_memo.specs.Chains.{blank}
use Rattle.ceal_memo.proofs.Grouping.{lists_linked, same_length, same_stamped, set_here, set_others}
use Rattle.ceal_memo.proofs.Linking.{relinked}
use Rattle.ceal_memo.proofs.lists.let_go.Goals as goal

pub returns-clause-lists : goal.returns-clause-lists
returns-clause-lists c = lists_linked c.unchain.new.groups c.args.number _ c.args.free ∙ c.unchain.ensures.lists

pub returns-clause-linked : goal.returns-clause-linked
returns-clause-linked c =
    let count = same_length c.unchain.new.groups c.args.groups.now c.unchain.ensures.lists in
    let size = c.unchain.ensures.size in
    let enough = c.requires.enough in
    let few : length c.unchain.new.groups ≤ length c.unchain.new.heads = omega arith in
    relinked c.unchain.new.heads c.unchain.new.groups c.args.number
    (same_stamped c.unchain.new.groups c.args.groups.now c.unchain.ensures.lists c.args.number ∙ c.requires.empty)
    _ c.args.free c.unchain.ensures.chained few

pub returns-clause-next : goal.returns-clause-next
returns-clause-next c = λ n other e. ap (λ (g : Group). g.next) (set_others c.unchain.new.groups c.args.number _ blank n other) ∙ c.unchain.ensures.next n other e

pub returns-clause-own : goal.returns-clause-own
returns-clause-own c =
    let count = same_length c.unchain.new.groups c.args.groups.now c.unchain.ensures.lists in
    let number = c.requires.number in
    let within : c.args.number < length c.unchain.new.groups = omega arith in
    ap (λ (g : Group). g.next) (set_here c.unchain.new.groups c.args.number _ blank within)
