use Rattle.std.proofs.Common.{◌≡◌, ◌++◌, length, map, reverse}
use Rattle.ceal_types.specs.Checked.{field_info}
use Rattle.ceal_types.proofs.check.field_infos.Given as goal

abbrev pub invariant-loop-name : goal.invariant-loop-name
invariant-loop-name l = map field_info l.fields ++ reverse l.infos.items ≡ map field_info l.fn.fields

abbrev pub decreases-loop-name : goal.decreases-loop-name
decreases-loop-name l = length l.fields
