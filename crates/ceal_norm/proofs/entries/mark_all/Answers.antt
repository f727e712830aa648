use Rattle.std.proofs.Common.{◌<◌, length, get_or, refl, arith, ◌∙◌}
use Rattle.ceal_norm.proofs.Equations.EntrySteps.{in-marked}
use Rattle.ceal_norm.proofs.entries.mark_all.Goals as goal

-- this block is marked, and the marks of the others stay
pub loop-b-preserved : goal.loop-b-preserved
loop-b-preserved c =
    let within : c.loop-b.b-index < length c.args.bs.now = omega arith in
    record {
      long = c.mark.ensures.length ∙ c.loop-b.invariant.long;
      marked = λ x l.
          in-marked x c.args.bs.now c.loop-b.b-index (get_or c.args.bs.now c.loop-b.b-index 0) _ _ _ within refl
          (c.mark.ensures.marked x (rw c.loop-b.invariant.long l)) (c.loop-b.invariant.marked x l);
    }
