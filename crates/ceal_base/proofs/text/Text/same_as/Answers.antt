use Rattle.std.proofs.Common.{rules}
use Rattle.std.proofs.lemmas.Slice.Eq.{slice_eq-Decides}
use Rattle.ceal_base.proofs.text.Text.same_as.Goals as goal

pub returns : goal.returns
returns c = record {
  same = rw (← c.items.ensures.value, ← c.items-2.ensures.value)
      (slice_eq-Decides (λ a b. search rules) c.items.result.now c.items-2.result.now c.eq.result c.eq.ensures);
}
