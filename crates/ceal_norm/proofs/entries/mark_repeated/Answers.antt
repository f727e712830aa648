use Rattle.std.proofs.Common.{◌<◌, length, get_or, refl, ap, ◌∙◌, arith}
use Rattle.std.proofs.lemmas.List.{length-replicate}
use Rattle.ceal_norm.specs.Table.{is_marked}
use Rattle.ceal_norm.proofs.Equations.EntrySteps.{marked-none, count-none, once-marked, twice-marked}
use Rattle.ceal_norm.proofs.entries.mark_repeated.Goals as goal

-- no block was seen, so none is marked
pub loop-b-init : goal.loop-b-init
loop-b-init c = record {
  long = refl;
  long_once = rw c.requires.none (length-replicate (length c.args.marks.now.items) _);
  once = λ x l. rw (c.requires.none, count-none) (marked-none (length c.args.marks.now.items) x);
  marked = λ x l. rw count-none refl;
}

-- a block that was seen before is marked as repeated, another one as seen
pub loop-b-preserved : goal.loop-b-preserved
loop-b-preserved c =
    let within : c.loop-b.b-index < length c.args.bs.now = omega arith in
    record {
      long = c.mark_again.ensures.length_two ∙ c.loop-b.invariant.long;
      long_once = c.mark_again.ensures.length ∙ c.loop-b.invariant.long_once;
      once = λ x l.
          once-marked x c.args.bs.now c.loop-b.b-index (get_or c.args.bs.now c.loop-b.b-index 0) _ _ within refl
          (c.mark_again.ensures.once x (rw c.loop-b.invariant.long_once l)) (c.loop-b.invariant.once x l);
      marked = λ x l.
          twice-marked x c.args.bs.now c.loop-b.b-index (get_or c.args.bs.now c.loop-b.b-index 0) _ _ _ _ within refl
          (λ e. ap (is_marked c.loop-b.once.items) e ∙ c.loop-b.invariant.once x l)
          (c.mark_again.ensures.marks x (rw c.loop-b.invariant.long l)) (c.loop-b.invariant.marked x l);
    }
