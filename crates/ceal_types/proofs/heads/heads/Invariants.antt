use Rattle.std.proofs.Common.{◌≡◌, [], drop}
use Rattle.ceal_types.specs.Heads.{with_entry, no_entries, struct_names}
use Rattle.ceal_types.specs.Walk.{in_turn}
use Rattle.ceal_types.proofs.heads.heads.Given as goal

abbrev pub invariant-loop-entry : goal.invariant-loop-entry
invariant-loop-entry l =
    in_turn with_entry (drop l.entry-index l.entries) l.program ≡ in_turn with_entry l.entries (no_entries (struct_names l.entries []))
