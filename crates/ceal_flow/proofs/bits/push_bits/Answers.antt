use Rattle.std.proofs.Common.{sym, ap, ◌∙◌, ◌++◌, append_assoc}
use Rattle.std.proofs.lemmas.List.{append-nil}
use Rattle.ceal_flow.proofs.BitFacts.{inside-more, inside-nil}
use Rattle.ceal_flow.proofs.bits.push_bits.Goals as goal

pub loop-j-init : goal.loop-j-init
loop-j-init c = sym (ap (λ xs. c.args.numbers.now.items ++ xs) (inside-nil c.args.chunk) ∙ append-nil c.args.numbers.now.items)

pub loop-j-preserved : goal.loop-j-preserved
loop-j-preserved c = rw (inside-more, ← append_assoc, ← c.loop-j.invariant, ← c.is_set.ensures.value) c.in_ok-push_if.ensures
