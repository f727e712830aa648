use Rattle.std.proofs.Common.{◌<◌, sym, length, bytes_eq, rules}
use Rattle.ceal_base.specs.declared.typed.TypedFunction.{TypedFunction}
use Rattle.ceal_types.proofs.NameNumbers.FirstOfName.{first-taken}
use Rattle.ceal_types.proofs.numbers.function_numbers.Goals as goal

pub loop-i-preserved : goal.loop-i-preserved
loop-i-preserved c =
    let within : c.loop-i.i < length c.args.functions.now = search rules in
    λ n.
    rw (c.in_ok-put_first.ensures n, c.loop-i.invariant n)
    (sym (first-taken (λ (f : TypedFunction). bytes_eq f.name.text n) c.args.functions.now c.loop-i.i _ within))
