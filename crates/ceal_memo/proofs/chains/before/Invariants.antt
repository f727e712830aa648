use Rattle.std.proofs.Common.{◌≡◌, ◌<◌, ◌≤◌, ℕ, suc, Bool, length}
use Rattle.ceal_memo.specs.Chains.{head_at, next_at, IsIn, Chained}
use Rattle.ceal_memo.proofs.chains.before.Given as goal

-- the link is that from a place before that of the number
abbrev pub invariant-loop-before : goal.invariant-loop-before
invariant-loop-before l = record {
  within : l.link ≤ length l.groups;
  low : l.before ≤ length l.groups;
  head : l.before ≡ 0 → l.link ≡ head_at l.heads l.bucket;
  after : (n : ℕ) → l.before ≡ suc n → l.number < n;
  next : (n : ℕ) → l.before ≡ suc n → l.link ≡ next_at l.groups n;
  there : (among : ℕ → Bool) → Chained (length l.groups) among l.heads l.groups → (n : ℕ) → l.link ≡ suc n → IsIn among (length l.heads) l.groups n l.bucket;
  own : (among : ℕ → Bool) → Chained (length l.groups) among l.heads l.groups → (n : ℕ) → l.before ≡ suc n → IsIn among (length l.heads) l.groups n l.bucket;
}

abbrev pub decreases-loop-before : goal.decreases-loop-before
decreases-loop-before l = l.link
