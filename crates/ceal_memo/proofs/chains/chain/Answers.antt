use Rattle.std.proofs.Common.{◌≡◌, ◌≢◌, ◌+◌, suc, List, length, ap, ◌∙◌, arith}
use Rattle.ceal_memo.specs.declared.chains.Group.{Group}
use Rattle.ceal_memo.specs.Chains.{blank, bucket, next_at, stamped}
use Rattle.ceal_memo.proofs.Grouping.{group_is, set_here, set_others, lists_linked}
use Rattle.std.proofs.Common.{sym}
use Rattle.std.proofs.lemmas.Bool.{false≢true}
use Rattle.ceal_memo.proofs.Linking.{comes_in}
use Rattle.ceal_memo.proofs.chains.chain.Goals as goal

pub returns-clause-lists : goal.returns-clause-lists
returns-clause-lists c = c.lead.ensures.lists ∙ lists_linked c.args.groups.now c.args.number _ c.link_after-next.result

pub returns-clause-chained : goal.returns-clause-chained
returns-clause-chained c =
    let heads = c.args.heads.now in
    let groups = c.args.groups.now in
    let number = c.args.number in
    let before = c.before-before.result in
    let at = c.before-before.ensures.before (stamped groups) c.requires.chained in
    let more : number + 1 ≡ suc number = omega arith in
    comes_in heads c.lead.new.heads groups c.lead.new.groups c.lead.ensures.size
    (c.lead.ensures.lists ∙ lists_linked groups number _ c.link_after-next.result)
    number c.bucket-bucket.result before c.requires.number c.requires.empty c.bucket-bucket.ensures.within
    (c.bucket-bucket.ensures.bucket ∙ ap (λ (g : Group). bucket (length heads) g.hash) (group_is groups number _ c.requires.number))
    c.lead.ensures.heads c.lead.ensures.unmoved c.requires.chained at
    (λ first. c.lead.ensures.head first ∙ more)
    (λ first. ap (λ (gs : List Group). next_at gs number) (c.lead.ensures.same first) ∙ ap (λ (g : Group). g.next)
    (set_here groups number _ blank c.requires.number) ∙ c.link_after-next.ensures.head first)
    (λ n is. c.lead.ensures.group n is ∙ more)
    (λ n is.
    let after = at.after n is in
    let apart : before ≢ suc number = λ same. absurd (omega arith) in
    c.lead.ensures.others number apart ∙ ap (λ (g : Group). g.next) (set_here groups number _ blank c.requires.number) ∙ c.link_after-next.ensures.group n is)
    (λ n other apart. c.lead.ensures.others n other ∙ ap (λ (g : Group). g.next) (set_others groups number _ blank n apart))

-- the group before it has stamps
pub returns-clause-next : goal.returns-clause-next
returns-clause-next c = λ n other e.
    let groups = c.args.groups.now in
    let at = c.before-before.ensures.before (stamped groups) c.requires.chained in
    c.lead.ensures.others n (λ is. false≢true (sym e.empty ∙ (at.there n is).chosen)) ∙ ap (λ (g : Group). g.next) (set_others groups c.args.number _ blank n other)
