use Rattle.std.proofs.Common.{◌≡◌, ◌≢◌, ◌<◌, ◌-◌, ℕ, suc, length, inl, inr, sym, ap, ◌∙◌, subst, arith}
use Rattle.ceal_memo.specs.declared.chains.Group.{Group}
use Rattle.ceal_memo.specs.Chains.{bucket, group_at, next_at, stamped, IsIn, IsLast}
use Rattle.ceal_memo.proofs.Grouping.{group_is, stamped_within}
use Rattle.ceal_memo.proofs.Chaining.{less_or}
use Rattle.ceal_memo.proofs.Linking.{head_last}
use Rattle.ceal_memo.proofs.chains.find.Goals as goal

pub loop-link-init : goal.loop-link-init
loop-link-init c =
    let heads = c.args.heads.now in
    let groups = c.args.groups.now in
    let b = bucket (length heads) c.args.hash in
    let last = subst (IsLast (IsIn (stamped groups) (length heads) groups) b (length groups)) (sym c.first-link.ensures) (head_last heads groups c.requires.linked c.args.hash (omega arith)) in
    record {
      within = last.within;
      there = last.there;
      passed = λ n above is same.
          let below = last.last n (stamped_within groups n is.chosen) is in
          omega arith;
    }

pub loop-link-smaller : goal.loop-link-smaller
loop-link-smaller c =
    let heads = c.args.heads.now in
    let groups = c.args.groups.now in
    let b = bucket (length heads) c.args.hash in
    let m = c.loop-link.link - 1 in
    let within = c.loop-link.invariant.within in
    let is : c.loop-link.link ≡ suc m = omega arith in
    let low : m < length groups = omega arith in
    let group : c.index-groups-number.result ≡ group_at groups m = c.index-groups-number.is ∙ group_is groups m c.index-groups-number.result low in
    let next : c.index-groups-number.result.next ≡ next_at groups m = ap (λ (g : Group). g.next) group in
    let last = (c.requires.linked.chained.nexts m b low (c.loop-link.invariant.there m is)).within in
    omega arith

pub loop-link-preserved : goal.loop-link-preserved
loop-link-preserved c =
    let heads = c.args.heads.now in
    let groups = c.args.groups.now in
    let b = bucket (length heads) c.args.hash in
    let m = c.loop-link.link - 1 in
    let within = c.loop-link.invariant.within in
    let is : c.loop-link.link ≡ suc m = omega arith in
    let low : m < length groups = omega arith in
    let group : c.index-groups-number.result ≡ group_at groups m = c.index-groups-number.is ∙ group_is groups m c.index-groups-number.result low in
    let last = subst (IsLast (IsIn (stamped groups) (length heads) groups) b m) (sym (ap (λ (g : Group). g.next) group)) (c.requires.linked.chained.nexts m b low (c.loop-link.invariant.there m is)) in
    record {
      within = let most = last.within in omega arith;
      there = last.there;
      passed = λ n above in_n same.
          let differ : n ≢ m = λ p. c.if-group-hash.false (ap (λ (g : Group). g.hash) group ∙ subst (λ (k : ℕ). (group_at groups k).hash ≡ c.args.hash) p same) in
          elim (less_or n m) [
            | inl fewer ↦ let lower = last.last n fewer in_n in omega arith
            | inr more ↦ c.loop-link.invariant.passed n (omega arith) in_n same
          ];
    }
