use Rattle.std.proofs.Common.{◌-◌, ◌≤◌, max, List, set, sym, subst, arith}
use Rattle.ceal_words.specs.SizeClass.{SizeClass, grown}
use Rattle.ceal_words.specs.Region.{spare, KeepsAll, KeepsOtherSpares}
use Rattle.ceal_words.proofs.RegionLemmas.{grown_words, spare_there, grown_spare, grown_others}
use Rattle.ceal_words.proofs.region.Region.reserve.Goals as goal

pub returns-clause-words : goal.returns-clause-words
returns-clause-words c =
    let region = c.self.inside.pools.items in let k = c.size_class.result in let class = c.index_mut-pool.result.now in let more = c.reserve.new.self.spare - class.spare in
    subst (λ (n : SizeClass). KeepsAll c.args.self.now (set region k n)) (sym c.reserve.ensures.kept)
    (subst (λ (r : List SizeClass). KeepsAll r (set region k (grown more class))) c.self.view_is
    (grown_words region k more class (omega (arith, c.size_class.ensures.small, c.self.invariant.counted)) c.index_mut-pool.ensures.value))

pub returns-clause-raises : goal.returns-clause-raises
returns-clause-raises c =
    let region = c.self.inside.pools.items in let k = c.size_class.result in let class = c.index_mut-pool.result.now in let more = c.reserve.new.self.spare - class.spare in
    subst (λ (n : SizeClass). spare c.args.self.now c.args.len ≤ spare (set region k n) c.args.len) (sym c.reserve.ensures.kept)
    (subst (λ (r : List SizeClass). spare r c.args.len ≤ spare (set region k (grown more class)) c.args.len) c.self.view_is
    (let e = grown_spare region k more class (omega (arith, c.size_class.ensures.small, c.self.invariant.counted)) c.index_mut-pool.ensures.value c.args.len (sym c.size_class.ensures.value) in omega
    (arith, e)))

pub returns-clause-few : goal.returns-clause-few
returns-clause-few c =
    let region = c.self.inside.pools.items in let k = c.size_class.result in let class = c.index_mut-pool.result.now in let more = c.reserve.new.self.spare - class.spare in
    subst (λ (n : SizeClass). spare (set region k n) c.args.len ≤ max (spare c.args.self.now c.args.len) c.args.n) (sym c.reserve.ensures.kept)
    (subst (λ (r : List SizeClass). spare (set region k (grown more class)) c.args.len ≤ max (spare r c.args.len) c.args.n) c.self.view_is
    (let e = grown_spare region k more class (omega (arith, c.size_class.ensures.small, c.self.invariant.counted)) c.index_mut-pool.ensures.value c.args.len (sym c.size_class.ensures.value) in
    let old = spare_there region k more class (omega (arith, c.size_class.ensures.small, c.self.invariant.counted)) c.index_mut-pool.ensures.value c.args.len (sym c.size_class.ensures.value) in
    omega (arith, e, old, c.reserve.ensures.few)))

pub returns-clause-others : goal.returns-clause-others
returns-clause-others c =
    let region = c.self.inside.pools.items in let k = c.size_class.result in let class = c.index_mut-pool.result.now in let more = c.reserve.new.self.spare - class.spare in
    subst (λ (n : SizeClass). KeepsOtherSpares c.args.len c.args.self.now (set region k n)) (sym c.reserve.ensures.kept)
    (subst (λ (r : List SizeClass). KeepsOtherSpares c.args.len r (set region k (grown more class))) c.self.view_is
    (grown_others region k more class (omega (arith, c.size_class.ensures.small, c.self.invariant.counted)) c.index_mut-pool.ensures.value c.args.len (sym c.size_class.ensures.value)))
