use Rattle.std.proofs.Common.{ap, sym, ◌∙◌}
use Rattle.ceal_flow.specs.Bits.{has_bit}
use Rattle.ceal_flow.specs.Sets.{is_in}
use Rattle.ceal_flow.proofs.BitFacts.{in-members}
use Rattle.ceal_flow.proofs.live_set.LiveSet.contains.Goals as goal

pub returns : goal.returns
returns c = record {
  value = c.has.ensures.value ∙ ap (λ cs. has_bit cs c.args.v) c.as_slice.ensures.value
      ∙ sym (in-members c.self.inside.chunks.items c.self.invariant c.args.v) ∙ ap (is_in c.args.v) c.self.view_is;
}
