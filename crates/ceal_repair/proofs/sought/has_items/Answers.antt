use Rattle.std.proofs.Common.{rules}
use Rattle.std.proofs.lemmas.Slice.Eq.{slice_eq-Decides}
use Rattle.ceal_repair.proofs.sought.has_items.Goals as goal

pub returns : goal.returns
returns c = record {
  same = rw (← c.items.ensures.value)
      (slice_eq-Decides (λ a b. search rules) c.items.result.now c.args.items.now c.eq.result c.eq.ensures);
}
