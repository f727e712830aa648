use Rattle.std.proofs.Common.{length, ap, ◌∙◌}
use Rattle.ceal_memo.specs.declared.chains.Group.{Group}
use Rattle.ceal_memo.specs.Chains.{bucket, stamped, with_one}
use Rattle.ceal_memo.proofs.Grouping.{group_is}
use Rattle.std.proofs.Common.{sym}
use Rattle.std.proofs.lemmas.Bool.{false≢true}
use Rattle.ceal_memo.proofs.Linking.{goes_out, with_others}
use Rattle.ceal_memo.proofs.chains.unchain.Goals as goal

pub returns-clause-chained : goal.returns-clause-chained
returns-clause-chained c =
    let heads = c.args.heads.now in
    let groups = c.args.groups.now in
    let number = c.args.number in
    let group = group_is groups number c.index-groups-number.result c.requires.number in
    let next = ap (λ (g : Group). g.next) group in
    goes_out heads c.lead.new.heads groups c.lead.new.groups c.lead.ensures.size c.lead.ensures.lists
    number c.bucket-bucket.result c.before-before.result c.requires.number c.requires.empty c.bucket-bucket.ensures.within
    (c.bucket-bucket.ensures.bucket ∙ ap (λ (g : Group). bucket (length heads) g.hash) group)
    c.lead.ensures.heads c.lead.ensures.unmoved c.requires.chained
    (c.before-before.ensures.before (with_one number (stamped groups)) c.requires.chained)
    (λ first. c.lead.ensures.head first ∙ next) (λ n is. c.lead.ensures.group n is ∙ next) c.lead.ensures.others

-- the group before it has stamps
pub returns-clause-next : goal.returns-clause-next
returns-clause-next c = λ n other e.
    let groups = c.args.groups.now in
    let number = c.args.number in
    let at = c.before-before.ensures.before (with_one number (stamped groups)) c.requires.chained in
    c.lead.ensures.others n (λ is. false≢true (sym e.empty ∙ with_others number (stamped groups) n other (at.there n is).chosen))
