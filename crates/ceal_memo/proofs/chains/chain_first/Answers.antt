use Rattle.std.proofs.Common.{◌≡◌, ◌+◌, suc, length, ap, ◌∙◌, arith}
use Rattle.ceal_memo.specs.declared.chains.Group.{Group}
use Rattle.ceal_memo.specs.Chains.{blank, bucket}
use Rattle.ceal_memo.proofs.Grouping.{group_is, set_here, set_others, length_set, lists_linked}
use Rattle.ceal_memo.proofs.Linking.{comes_first}
use Rattle.ceal_memo.proofs.chains.chain_first.Goals as goal

pub returns-clause-lists : goal.returns-clause-lists
returns-clause-lists c = lists_linked c.args.groups.now c.args.number _ _

pub returns-clause-chained : goal.returns-clause-chained
returns-clause-chained c =
    let heads = c.args.heads.now in
    let groups = c.args.groups.now in
    let number = c.args.number in
    let b = c.bucket-bucket.result in
    let group = group_is groups number c.index-groups-number.result c.requires.number in
    let more : number + 1 ≡ suc number = omega arith in
    comes_first heads _ groups _ (length_set heads b (number + 1)) (lists_linked groups number _ _)
    number c.requires.number c.requires.chained b c.requires.stamps c.bucket-bucket.ensures.within
    (c.bucket-bucket.ensures.bucket ∙ ap (λ (g : Group). bucket (length heads) g.hash) group)
    (set_here heads b (number + 1) 0 c.bucket-bucket.ensures.within ∙ more) (set_others heads b (number + 1) 0)
    (ap (λ (g : Group). g.next) (set_here groups number _ blank c.requires.number))
    (λ n other. ap (λ (g : Group). g.next) (set_others groups number _ blank n other))

pub returns-clause-next : goal.returns-clause-next
returns-clause-next c = λ n other. ap (λ (g : Group). g.next) (set_others c.args.groups.now c.args.number _ blank n other)
