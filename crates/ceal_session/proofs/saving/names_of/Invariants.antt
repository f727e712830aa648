use Rattle.std.proofs.Common.{◌≡◌, take}
use Rattle.ceal_session.proofs.saving.names_of.Given as goal

abbrev pub invariant-loop-number : goal.invariant-loop-number
invariant-loop-number l = l.texts.items ≡ take l.number l.names
