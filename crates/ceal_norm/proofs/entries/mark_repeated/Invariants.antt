use Rattle.std.proofs.Common.{◌≡◌, ℕ, ◌<◌, ◌||◌, nat_le, length, take}
use Rattle.ceal_norm.specs.Entries.{count}
use Rattle.ceal_norm.specs.Table.{is_marked}
use Rattle.ceal_norm.proofs.entries.mark_repeated.Given as goal

abbrev pub invariant-loop-b : goal.invariant-loop-b
invariant-loop-b l = record {
  long : length l.marks.items ≡ length l.initial.marks.items;
  long_once : length l.once.items ≡ length l.initial.marks.items;
  once : (c : ℕ) → c < length l.initial.marks.items → is_marked l.once.items c ≡ nat_le 1 (count c (take l.b-index l.bs));
  marked : (c : ℕ) → c < length l.initial.marks.items
      → is_marked l.marks.items c ≡ (nat_le 2 (count c (take l.b-index l.bs)) || is_marked l.initial.marks.items c);
}
