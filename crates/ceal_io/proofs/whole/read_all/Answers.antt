use Rattle.std.proofs.Common.{rules}
use Rattle.std.proofs.KnownBytes.{Consumes-trans}
use Rattle.std.proofs.lemmas.List.{length-append, length-take}
use Rattle.ceal_io.proofs.whole.read_all.Goals as goal

-- what was read before, and what this call gave
pub returns-in_err-extend_from_slice-in-Ok-clause-lost :
    goal.returns-in_err-extend_from_slice-in-Ok-clause-lost
returns-in_err-extend_from_slice-in-Ok-clause-lost g c = (
  _,
  Consumes-trans _ _ _ _ _ c.loop-piece.invariant.lost c.in-Ok.ensures.bytes.0,
  rw (length-append, length-take) (search rules),
)
