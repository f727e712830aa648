use Rattle.std.proofs.Common.{◌≡◌, [], drop}
use Rattle.ceal_types.specs.Heads.{with_field}
use Rattle.ceal_types.specs.Walk.{in_turn}
use Rattle.ceal_types.proofs.heads.fields_of.Given as goal

abbrev pub invariant-loop-field : goal.invariant-loop-field
invariant-loop-field l = in_turn (with_field l.names) (drop l.field-index l.fields) l.table ≡ in_turn (with_field l.names) l.fields []
