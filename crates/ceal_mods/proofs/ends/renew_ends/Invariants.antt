use Rattle.std.proofs.Common.{◌≡◌, drop}
use Rattle.ceal_mods.proofs.RenewedMarks.{renewed, unlisted}
use Rattle.ceal_mods.proofs.ends.renew_ends.Given as goal

abbrev pub invariant-loop-slot : goal.invariant-loop-slot
invariant-loop-slot g l = record {
  ends : renewed l.cells (drop l.slot-index l.slots) l.ends ≡ renewed l.cells l.slots l.initial.ends;
  listed : unlisted (drop l.slot-index l.slots) l.listed ≡ unlisted l.slots l.initial.listed;
}
