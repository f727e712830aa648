use Rattle.std.proofs.Common.{arith, refl}
use Rattle.ceal_heap.proofs.PartsLemmas.{one_less}
use Rattle.ceal_heap.proofs.parts.without_last.Goals as goal

pub loop-word-preserved : goal.loop-word-preserved
loop-word-preserved c =
    let few = c.loop-word.invariant.few in
    record {
      few = omega (arith, few);
      same = one_less c.args.words.now c.loop-word.count c.args.word (c.loop-word-test.ensures.some refl) (c.loop-word-test.ensures.last refl) c.loop-word.invariant.same;
    }
