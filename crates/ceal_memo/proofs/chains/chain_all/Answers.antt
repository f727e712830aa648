use Rattle.std.proofs.Common.{◌≡◌, ◌<◌, ◌+◌, suc, true, false, length, sym, ap, subst, ◌∙◌, arith}
use Rattle.std.proofs.lemmas.Bool.{false≢true}
use Rattle.ceal_memo.specs.Lists.{has_stamps}
use Rattle.ceal_memo.specs.Chains.{stamped, Chained}
use Rattle.ceal_memo.specs.declared.chains.Group.{Group}
use Rattle.ceal_memo.proofs.Grouping.{group_is, same_length, some_is}
use Rattle.ceal_memo.proofs.Spares.{empty-as, passed}
use Rattle.ceal_memo.proofs.chains.chain_all.Goals as goal
use Rattle.ceal_memo.proofs.chains.chain_all.Goals.{then-not-is_empty, else-not-is_empty}

-- one group more is in its chain, where it has stamps
pub loop-number-preserved : goal.loop-number-preserved
loop-number-preserved c = elim c.if-not-is_empty.branch [
  | then-not-is_empty w ↦
      let i = c.loop-number.invariant in
      let groups = c.loop-number.groups in
      let number = c.loop-number.number in
      let low = c.loop-number-test.true in
      let long = same_length groups c.args.groups.now i.lists in
      let group = group_is groups number c.index-groups-number.result (omega (arith, low, long)) in
      let stamps : stamped groups number ≡ true
      = ap (λ (g : Group). has_stamps g.list) (sym group) ∙ some_is _ (λ none. false≢true (sym w.if-not-is_empty.true ∙ c.is_empty.ensures.1 none)) in
      let more : suc number ≡ number + 1 = omega arith in
      rw (w.heads-is, w.groups-is) (record {
        size = w.chain_first.ensures.size ∙ i.size;
        lists = w.chain_first.ensures.lists ∙ i.lists;
        next = λ n e.
            w.chain_first.ensures.next n (λ same. false≢true (sym (empty-as c.args.groups.now groups i.lists n e).empty ∙ (ap (stamped groups) same ∙ stamps)))
            ∙ i.next n e;
        chained = subst (λ k. Chained k (stamped w.chain_first.new.groups) w.chain_first.new.heads w.chain_first.new.groups) more w.chain_first.ensures.chained;
      })
  | else-not-is_empty w ↦
      let i = c.loop-number.invariant in
      let groups = c.loop-number.groups in
      let number = c.loop-number.number in
      let low = c.loop-number-test.true in
      let long = same_length groups c.args.groups.now i.lists in
      let group = group_is groups number c.index-groups-number.result (omega (arith, low, long)) in
      let none : stamped groups number ≡ false = ap (λ (g : Group). has_stamps g.list) (sym group) ∙ ap has_stamps (c.is_empty.ensures.0 w.if-not-is_empty.false) in
      rw (w.heads-is, w.groups-is) (record { size = i.size; lists = i.lists; next = i.next; chained = passed c.loop-number.heads groups number none i.chained })
]
