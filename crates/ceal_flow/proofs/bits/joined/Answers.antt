use Rattle.std.proofs.Common.{refl}
use Rattle.std.proofs.lemmas.Nat.{or_lt}
use Rattle.ceal_flow.proofs.bits.joined.Goals as goal

pub returns : goal.returns
returns c = record { value = refl; fits = or_lt 64 c.args.old c.args.bits c.ranges.old.fits c.ranges.bits.fits }
