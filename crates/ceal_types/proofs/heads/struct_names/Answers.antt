use Rattle.std.proofs.Common.{◌<◌, ◌≤◌, length, arith}
use Rattle.ceal_types.proofs.NameNumbers.NamesOfStructs.{names-passed, names-over}
use Rattle.ceal_types.proofs.heads.struct_names.Goals as goal

pub loop-entry-preserved : goal.loop-entry-preserved
loop-entry-preserved c =
    let within : c.loop-entry.entry-index < length c.args.entries.now = omega arith in
    names-passed c.args.entries.now _ c.entry-item.result _ _ _ c.entry-item.is within c.loop-entry.invariant c.in_ok-add_name.ensures

pub returns : goal.returns
returns c =
    let over : length c.args.entries.now ≤ c.loop-entry.entry-index = omega arith in
    names-over c.args.entries.now _ _ _ over c.loop-entry.invariant
