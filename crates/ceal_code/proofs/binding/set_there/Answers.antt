use Rattle.std.proofs.Common.{◌≡◌, ◌+◌, ◌-◌, length, append-nil, sym, arith}
use Rattle.ceal_code.proofs.Equations.StackSteps.{arguments-set}
use Rattle.ceal_code.proofs.binding.set_there.Goals as goal

pub returns : goal.returns
returns c =
    let none : c.args.at + 1 - length c.args.env.now.items ≡ 0 = omega (arith, c.requires) in
    arguments-set c.args.env.now.items c.args.at c.args.word c.args.env.now.items (rw none (sym (append-nil c.args.env.now.items))) (omega (arith, c.requires))
