use Rattle.std.proofs.Common.{◌≡◌, ℕ, ◌<◌, ◌||◌, length, take}
use Rattle.ceal_flow.specs.Sets.{is_in}
use Rattle.ceal_norm.specs.Table.{is_marked}
use Rattle.ceal_norm.proofs.entries.mark_all.Given as goal

abbrev pub invariant-loop-b : goal.invariant-loop-b
invariant-loop-b l = record {
  long : length l.marks.items ≡ length l.initial.marks.items;
  marked : (c : ℕ) → c < length l.initial.marks.items → is_marked l.marks.items c ≡ (is_in c (take l.b-index l.bs) || is_marked l.initial.marks.items c);
}
