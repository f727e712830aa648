use Rattle.std.proofs.Common.{◌≡◌, ◌≢◌, ◌≤◌, ℕ, suc, length}
use Rattle.ceal_memo.specs.Chains.{bucket, group_at, stamped, IsIn}
use Rattle.ceal_memo.proofs.chains.find.Given as goal

-- what the link leads to is in the bucket, and none from there on has the hash
abbrev pub invariant-loop-link : goal.invariant-loop-link
invariant-loop-link l = record {
  within : l.link ≤ length l.groups;
  there : (n : ℕ) → l.link ≡ suc n → IsIn (stamped l.groups) (length l.heads) l.groups n (bucket (length l.heads) l.hash);
  passed : (n : ℕ) → l.link ≤ n → IsIn (stamped l.groups) (length l.heads) l.groups n (bucket (length l.heads) l.hash) → (group_at l.groups n).hash ≢ l.hash;
}

abbrev pub decreases-loop-link : goal.decreases-loop-link
decreases-loop-link l = l.link
