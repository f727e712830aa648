use Rattle.std.proofs.Common.{ap, ◌∙◌}
use Rattle.ceal_flow.specs.Bits.{members}
use Rattle.ceal_flow.proofs.BitFacts.{members-none}
use Rattle.ceal_flow.proofs.live_set.LiveSet.empty.Goals as goal

pub returns : goal.returns
returns c = record { value = ap members c.new.ensures.items ∙ members-none }
