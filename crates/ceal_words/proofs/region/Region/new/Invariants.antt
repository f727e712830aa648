use Rattle.ceal_words.specs.Region.{IsInOrder, AreNew}
use Rattle.ceal_words.proofs.region.Region.new.Given as goal

abbrev pub invariant-loop-exponent : goal.invariant-loop-exponent
invariant-loop-exponent l = IsInOrder l.exponent l.pools.items × AreNew l.pools.items
