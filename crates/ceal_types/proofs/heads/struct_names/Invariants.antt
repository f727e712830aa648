use Rattle.std.proofs.Common.{◌≡◌, [], drop}
use Rattle.ceal_types.specs.Heads.{struct_names}
use Rattle.ceal_types.proofs.heads.struct_names.Given as goal

abbrev pub invariant-loop-entry : goal.invariant-loop-entry
invariant-loop-entry l = struct_names (drop l.entry-index l.entries) l.names ≡ struct_names l.entries []
