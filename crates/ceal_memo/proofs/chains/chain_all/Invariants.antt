use Rattle.std.proofs.Common.{◌≡◌, ℕ, length}
use Rattle.ceal_memo.specs.Chains.{lists_of, next_at, stamped, Chained, IsEmptyAt}
use Rattle.ceal_memo.proofs.chains.chain_all.Given as goal

-- the groups so far are in the chains of their buckets
abbrev pub invariant-loop-number : goal.invariant-loop-number
invariant-loop-number l = record {
  size : length l.heads ≡ length l.fn.heads;
  lists : lists_of l.groups ≡ lists_of l.fn.groups;
  next : (n : ℕ) → IsEmptyAt l.fn.groups n → next_at l.groups n ≡ next_at l.fn.groups n;
  chained : Chained l.number (stamped l.groups) l.heads l.groups;
}
