use Rattle.std.proofs.Common.{◌≡◌, Ok}
use Rattle.ceal_types.specs.Heads.{with_elements}
use Rattle.ceal_types.proofs.heads.add_row.Given as goal

abbrev pub invariant-loop-index : goal.invariant-loop-index
invariant-loop-index l = with_elements l.name l.kind l.row l.index l.fn.fields ≡ Ok l.fields
