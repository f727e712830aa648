use Rattle.std.proofs.Common.{◌∙◌, ap, arith, ℕ, []}
use Rattle.std.proofs.lemmas.Nat.{one_shl}
use Rattle.ceal_words.proofs.RegionLemmas.{one_more_class}
use Rattle.ceal_words.proofs.region.Region.new.Goals as goal

pub loop-exponent-preserved : goal.loop-exponent-preserved
loop-exponent-preserved c =
    let exponent = c.loop-exponent.exponent in
    rw c.in_ok-push.ensures.items
    (one_more_class exponent c.loop-exponent.pools.items c.in_ok-pool.pool
    (c.in_ok-pool.ensures ∙ ap (λ (n : ℕ). record { size = n; pieces = []; spare = 0 }) (one_shl exponent 32 (omega (arith, c.loop-exponent-test.true))))
    c.loop-exponent.invariant)
