use Rattle.std.proofs.Common.{◌≡◌, ◌<◌, ◌-◌, ℕ, suc, Bool, length, sym, ap, ◌∙◌, slice_index_or, arith}
use Rattle.ceal_memo.specs.declared.chains.Group.{Group}
use Rattle.ceal_memo.specs.Chains.{next_at, IsIn, IsLast, Chained}
use Rattle.ceal_memo.proofs.Grouping.{group_is}
use Rattle.ceal_memo.proofs.chains.before.Goals as goal

pub loop-before-smaller : goal.loop-before-smaller
loop-before-smaller c =
    let groups = c.args.groups.now in
    let m = c.loop-before.link - 1 in
    let within = c.loop-before.invariant.within in
    let is : c.loop-before.link ≡ suc m = omega arith in
    let low : m < length groups = omega arith in
    let next : (slice_index_or groups m c.index-groups-link.result).next ≡ next_at groups m = ap (λ (g : Group). g.next) (group_is groups m c.index-groups-link.result low) in
    let known = c.requires.chained in
    let last = (known.1.nexts m c.args.bucket low (c.loop-before.invariant.there known.0 known.1 m is)).within in
    omega arith

pub loop-before-preserved : goal.loop-before-preserved
loop-before-preserved c =
    let heads = c.args.heads.now in
    let groups = c.args.groups.now in
    let m = c.loop-before.link - 1 in
    let within = c.loop-before.invariant.within in
    let is : c.loop-before.link ≡ suc m = omega arith in
    let low : m < length groups = omega arith in
    let next : (slice_index_or groups m c.index-groups-link.result).next ≡ next_at groups m = ap (λ (g : Group). g.next) (group_is groups m c.index-groups-link.result low) in
    let known = c.requires.chained in
    let last : (among : ℕ → Bool) → Chained (length groups) among heads groups → IsLast (IsIn among (length heads) groups) c.args.bucket m (next_at groups m)
    = λ among chained. chained.nexts m c.args.bucket low (c.loop-before.invariant.there among chained m is) in
    record {
      within = let most = (last known.0 known.1).within in omega arith;
      low = within;
      head = λ none. absurd (omega arith);
      after = λ n at. omega arith;
      next = λ n at. let same : m ≡ n = omega arith in next ∙ ap (next_at groups) same;
      there = λ among chained n at. (last among chained).there n (sym next ∙ at);
      own = λ among chained n at. c.loop-before.invariant.there among chained n at;
    }
