use Rattle.std.proofs.Common.{◌≡◌, ◌≤◌, ◌+◌, ◌-◌, ◌++◌, false, drop, length, replicate}
use Rattle.std.specs.Prelude.{vec_len, vec_capacity}
use Rattle.ceal_mods.specs.Marks.{ends_of}
use Rattle.ceal_mods.proofs.ends.add_ends.Given as goal

abbrev pub invariant-loop-entry : goal.invariant-loop-entry
invariant-loop-entry g l = record {
  ends : l.ends.items ++ ends_of (drop l.entry-index l.cells) ≡ l.initial.ends.items ++ ends_of l.cells;
  listed : l.listed.items ≡ l.initial.listed.items ++ replicate l.entry-index false;
  ends_room : vec_len l.ends + (length l.cells - l.entry-index) ≤ vec_capacity l.ends;
  listed_room : vec_len l.listed + (length l.cells - l.entry-index) ≤ vec_capacity l.listed;
}
