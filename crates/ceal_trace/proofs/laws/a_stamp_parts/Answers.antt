use Rattle.ceal_trace.proofs.Parts.{split_at, not_before, not_behind}
use Rattle.ceal_trace.proofs.laws.a_stamp_parts.Goals as goal

pub returns : goal.returns
returns c = record { at = split_at; before = not_before; behind = not_behind }
