use Rattle.std.proofs.Common.{arith, ◌+◌}
use Rattle.ceal_repair.proofs.Runs.Paid.{off-frames, pays-off}
use Rattle.ceal_repair.specs.Looks.{touched_ahead, ends_ahead}
use Rattle.ceal_repair.specs.Repairs.{account}
use Rattle.ceal_repair.proofs.repair.Repair.close.Goals as goal

-- the frame that is taken off paid for what comes at its end
pub returns-in_ok-finish-in-Some-Begun-clause-pays : goal.returns-in_ok-finish-in-Some-Begun-clause-pays
returns-in_ok-finish-in-Some-Begun-clause-pays c =
    let e = off-frames c.args.self.now.frames.now.items c.pop.new.self.items c.in-Some-Begun.field-0 _ c.in-Some-Begun.ensures.items c.in-Some-Begun.field-0-is in
    let f = e.0 in
    let g = e.1 in
    pays-off (account c.args.self.now) (account c.finish.new.self) (touched_ahead c.pop.new.self.items + 2) (ends_ahead c.pop.new.self.items + 1) (omega (arith, f)) (omega (arith, g))
    c.in_ok-finish-in-Some-Begun.ensures.pays

pub returns-in_ok-leave-in-Some-Taken-clause-pays : goal.returns-in_ok-leave-in-Some-Taken-clause-pays
returns-in_ok-leave-in-Some-Taken-clause-pays c =
    let e = off-frames c.args.self.now.frames.now.items c.pop.new.self.items c.in-Some-Taken.field-0 _ c.in-Some-Taken.ensures.items c.in-Some-Taken.field-0-is in
    let f = e.0 in
    let g = e.1 in
    pays-off (account c.args.self.now) (account c.leave.new.self) (touched_ahead c.pop.new.self.items + 1) (ends_ahead c.pop.new.self.items) (omega (arith, f)) (omega (arith, g))
    c.in_ok-leave-in-Some-Taken.ensures.pays

pub returns-in_ok-go_on-in-Some-Kept-clause-pays : goal.returns-in_ok-go_on-in-Some-Kept-clause-pays
returns-in_ok-go_on-in-Some-Kept-clause-pays c =
    let e = off-frames c.args.self.now.frames.now.items c.pop.new.self.items c.in-Some-Kept.field-0 _ c.in-Some-Kept.ensures.items c.in-Some-Kept.field-0-is in
    let f = e.0 in
    let g = e.1 in
    pays-off (account c.args.self.now) (account c.go_on.new.self) (touched_ahead c.pop.new.self.items) (ends_ahead c.pop.new.self.items) (omega (arith, f)) (omega (arith, g))
    c.in_ok-go_on-in-Some-Kept.ensures.pays
