use Rattle.std.proofs.Common.{◌≡◌, take}
use Rattle.ceal_base.proofs.copies.copied_structs.Given as goal

abbrev pub invariant-loop-info : goal.invariant-loop-info
invariant-loop-info l = l.copies.items ≡ take l.info-index l.structs
