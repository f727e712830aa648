use Rattle.std.proofs.Common.{◌≡◌, ◌++◌, take}
use Rattle.ceal_flow.specs.Live.{all_mentions}
use Rattle.ceal_live.proofs.uses.put_all_mentions.Given as goal

abbrev pub invariant-loop-e : goal.invariant-loop-e
invariant-loop-e l = l.used.items ≡ l.initial.used.items ++ all_mentions (take l.e-index l.es)
