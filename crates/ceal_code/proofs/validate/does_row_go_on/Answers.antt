use Rattle.std.proofs.Common.{◌≡◌, arith, sym, ◌∙◌}
use Rattle.ceal_code.proofs.Equations.ListSteps.{going-over}
use Rattle.ceal_code.proofs.validate.does_row_go_on.Goals as goal

pub returns : goal.returns
returns c =
    let over : c.loop-n.n ≡ 0 = omega (arith, c.loop-n-test.false) in
    sym (going-over c.loop-n.n c.args.kind c.loop-n.rest.now over) ∙ c.loop-n.invariant
