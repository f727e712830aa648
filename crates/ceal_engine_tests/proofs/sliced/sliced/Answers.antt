use Rattle.std.proofs.Common.{refl}
use Rattle.ceal_engine_tests.proofs.GoesOn.{goes-on}
use Rattle.ceal_engine_tests.proofs.sliced.sliced.Goals as goal

pub returns : goal.returns
returns c =
    let holds =
    goes-on c.more_law.ensures.law c.args.call.code.now c.args.before.now c.args.after.now c.args.call.function c.args.call.args.now c.args.repair c.requires.holds
    (c.if-not-fits.ensures refl) (c.if-not-is_edit.ensures.extended refl) in
    record { holds = c.in_ok-sliced.ensures.holds c.args.call.function c.args.call.args.now holds }
