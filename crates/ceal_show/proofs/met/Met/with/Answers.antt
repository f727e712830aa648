use Rattle.std.proofs.Common.{ℕ, ◌+◌, sym, ap, arith}
use Rattle.ceal_show.proofs.Numbers.{cores_fit, table_more}
use Rattle.ceal_show.proofs.met.Met.with.Goals as goal

pub overflow_add-cores : goal.overflow_add-cores
overflow_add-cores c =
    let fit = cores_fit c.self.inside.blocks.items c.args.block in
    let small = c.self.inside.blocks.small in
    omega (arith, fit, c.self.invariant.counted, c.core_count.ensures, small)

-- a block that was not met gets the next number
pub invariant_of-result-2 : goal.invariant_of-result-2
invariant_of-result-2 c =
    table_more c.self.inside.blocks.items _ c.args.block c.self.inside.numbers _ c.self.inside.cores _ c.self.invariant (sym c.if-contains_key.ensures)
    (ap (λ (n : ℕ). c.self.inside.cores + n) c.core_count.ensures) c.in_ok-insert.ensures.updates.0 c.in_ok-push.ensures.items
