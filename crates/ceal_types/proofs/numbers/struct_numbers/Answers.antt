use Rattle.std.proofs.Common.{◌<◌, sym, length, bytes_eq, rules}
use Rattle.ceal_base.specs.declared.typed.StructInfo.{StructInfo}
use Rattle.ceal_types.proofs.NameNumbers.FirstOfName.{first-taken}
use Rattle.ceal_types.proofs.numbers.struct_numbers.Goals as goal

pub loop-i-preserved : goal.loop-i-preserved
loop-i-preserved c =
    let within : c.loop-i.i < length c.args.structs.now = search rules in
    λ n.
    rw (c.in_ok-put_first.ensures n, c.loop-i.invariant n)
    (sym (first-taken (λ (s : StructInfo). bytes_eq s.name n) c.args.structs.now c.loop-i.i _ within))
