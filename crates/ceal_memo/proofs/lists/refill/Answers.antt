use Rattle.std.proofs.Common.{◌≡◌, ◌≤◌, ◌<◌, length, refl, ◌∙◌, arith}
use Rattle.ceal_memo.proofs.Grouping.{group_is, length_set, same_length}
use Rattle.ceal_memo.proofs.Spares.{spares-filled}
use Rattle.ceal_memo.proofs.Linking.{rehashed, filled_linked, filled_lists}
use Rattle.ceal_memo.proofs.lists.refill.Goals as goal

pub chain-requires-clause-chained : goal.chain-requires-clause-chained
chain-requires-clause-chained c = rehashed c.args.heads.now c.args.groups.now c.args.number c.requires.empty _ c.args.hash c.requires.number c.requires.linked.chained

pub returns-clause-lists : goal.returns-clause-lists
returns-clause-lists c =
    let count : length c.chain.new.groups ≡ length c.args.groups.now = same_length _ _ c.chain.ensures.lists ∙ length_set c.args.groups.now c.args.number _ in
    let number = c.requires.number in
    let within : c.args.number < length c.chain.new.groups = omega arith in
    filled_lists c.chain.new.groups c.args.number _ c.args.list within c.args.groups.now _ c.args.hash refl c.chain.ensures.lists

pub returns-clause-linked : goal.returns-clause-linked
returns-clause-linked c =
    let count : length c.chain.new.groups ≡ length c.args.groups.now = same_length _ _ c.chain.ensures.lists ∙ length_set c.args.groups.now c.args.number _ in
    let number = c.requires.number in
    let within : c.args.number < length c.chain.new.groups = omega arith in
    let size = c.chain.ensures.size in
    let enough = c.requires.linked.few in
    let few : length c.chain.new.groups ≤ length c.chain.new.heads = omega arith in
    filled_linked c.chain.new.groups c.args.number _ c.args.list within c.chain.new.heads c.requires.stamps c.chain.ensures.chained few

-- the next one is filled first now
pub returns-clause-spares : goal.returns-clause-spares
returns-clause-spares c =
    let few = c.requires.few in
    rw (group_is c.args.groups.now c.args.number _ c.requires.number)
    (spares-filled c.args.groups.now c.args.number _ c.chain.new.groups _ c.requires.spares (λ same. absurd (omega (arith, few, same))) c.requires.number c.requires.empty
    c.chain.ensures.lists c.chain.ensures.next c.requires.stamps)
