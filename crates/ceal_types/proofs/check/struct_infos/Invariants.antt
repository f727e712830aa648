use Rattle.std.proofs.Common.{◌≡◌, ◌++◌, length, map, reverse}
use Rattle.ceal_types.specs.Checked.{struct_info}
use Rattle.ceal_types.proofs.check.struct_infos.Given as goal

abbrev pub invariant-loop-name : goal.invariant-loop-name
invariant-loop-name l = map struct_info l.structs ++ reverse l.infos.items ≡ map struct_info l.fn.structs

abbrev pub decreases-loop-name : goal.decreases-loop-name
decreases-loop-name l = length l.structs
