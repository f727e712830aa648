-- In a tree each index is reached from only one command.
use Rattle.std.proofs.Common.{◌≡◌, ℕ, zero, suc, ◌+◌, ◌==◌, ◌||◌, Bool, true, false, if◌then◌else◌, Option, Some, None}
use Rattle.std.proofs.Common.{is_some, List, [], ◌∷◌, ◌++◌, refl, ap, ◌∙◌, subst, length, replicate, arith}
use Rattle.std.proofs.Common.{append_assoc, slice_get, slice_set, unwrap_or}
use Rattle.ceal_code.proofs.Words.SameIsEqual.{nat-same}
use Rattle.ceal_code.specs.Valid.{followers, all_followers, reached, all_but_first, is_tree}
use Rattle.ceal_code.specs.declared.command.Cmd.{Cmd}
use Rattle.ceal_fold.specs.Folding.{is_among}

-- what is marked stays so
mark-kept : (marks : List Bool) (k j : ℕ) → unwrap_or (slice_get marks j) true ≡ true → unwrap_or (slice_get (slice_set marks k true) j) true ≡ true
mark-kept [] k j h = h
mark-kept (m ∷ marks) zero zero h = refl
mark-kept (m ∷ marks) zero (suc j) h = h
mark-kept (m ∷ marks) (suc k) zero h = h
mark-kept (m ∷ marks) (suc k) (suc j) h = mark-kept marks k j h

mark-set : (marks : List Bool) (k : ℕ) → unwrap_or (slice_get (slice_set marks k true) k) true ≡ true
mark-set [] k = refl
mark-set (m ∷ marks) zero = refl
mark-set (m ∷ marks) (suc k) = mark-set marks k

-- an index that is reached was not marked, and the others are reached with it marked
abbrev reached-if : Bool → Option (List Bool) → Option (List Bool)
reached-if b o = if b then None else o

marked-not : (b : Bool) (o : Option (List Bool)) → is_some (reached-if b o) ≡ true → (b ≡ false) × (is_some o ≡ true)
marked-not true o h = absurd (grind (arith, h))
marked-not false o h = (refl, h)

pub marked-apart : (ks : List ℕ) (marks : List Bool) (j : ℕ) → is_some (reached marks ks) ≡ true → unwrap_or (slice_get marks j) true ≡ true → is_among j ks ≡ false
unfolding reached is_among
marked-apart [] marks j h m = refl
marked-apart (k ∷ ks) marks j h m =
    let p = marked-not (unwrap_or (slice_get marks k) true) (reached (slice_set marks k true) ks) h in
    go (j == k) refl p.0 (marked-apart ks (slice_set marks k true) j p.1 (mark-kept marks k j m))
  where
    go : (b : Bool) → (j == k) ≡ b → unwrap_or (slice_get marks k) true ≡ false → is_among j ks ≡ false → (b || is_among j ks) ≡ false
    go true e f g = let i : j ≡ k = nat-same j k e in absurd (grind (arith, m, f, i))
    go false e f g = g

among-later : (j : ℕ) (js ks : List ℕ) → is_among j (js ++ ks) ≡ false → is_among j ks ≡ false
unfolding is_among
among-later j [] ks h = h
among-later j (k ∷ js) ks h = go (j == k) h (λ h. among-later j js ks h)
  where
    go : (b : Bool) → (b || is_among j (js ++ ks)) ≡ false → (is_among j (js ++ ks) ≡ false → is_among j ks ≡ false) → is_among j ks ≡ false
    go true h again = absurd (grind (arith, h))
    go false h again = again h

pub reached-apart : (js ks : List ℕ) (marks : List Bool) (j : ℕ) → is_some (reached marks (js ++ ks)) ≡ true → is_among j js ≡ true → is_among j ks ≡ false
unfolding reached is_among
reached-apart [] ks marks j h m = absurd (grind (arith, m))
reached-apart (k ∷ js) ks marks j h m =
    let p = marked-not (unwrap_or (slice_get marks k) true) (reached (slice_set marks k true) (js ++ ks)) h in
    go (j == k) refl p.1 m (λ n. reached-apart js ks (slice_set marks k true) j p.1 n)
  where
    go : (b : Bool) → (j == k) ≡ b → is_some (reached (slice_set marks k true) (js ++ ks)) ≡ true → (b || is_among j js) ≡ true → (is_among j js ≡ true → is_among j ks ≡ false) → is_among j ks ≡ false
    go true e g n again =
        let i : j ≡ k = nat-same j k e in
        among-later j js ks (marked-apart (js ++ ks) (slice_set marks k true) j g (rw i (mark-set marks k)))
    go false e g n again = again n

-- the indices that are reached after some others
pub reached-later : (js ks : List ℕ) (marks : List Bool) → is_some (reached marks (js ++ ks)) ≡ true → (marks' : List Bool) × (is_some (reached marks' ks) ≡ true)
unfolding reached
reached-later [] ks marks h = (marks, h)
reached-later (j ∷ js) ks marks h =
    let p = marked-not (unwrap_or (slice_get marks j) true) (reached (slice_set marks j true) (js ++ ks)) h in
    reached-later js ks (slice_set marks j true) p.1

pub all-append : (cs ds : List Cmd) (i : ℕ) → all_followers (cs ++ ds) i ≡ all_followers cs i ++ all_followers ds (i + length cs)
unfolding all_followers
all-append [] ds i = let e : i + 0 ≡ i = omega arith in rw e refl
all-append (c ∷ cs) ds i =
    let e : (i + 1) + length cs ≡ i + length (c ∷ cs) = omega arith in
    rw (append_assoc) (ap (λ js. followers c i ++ js) (all-append cs ds (i + 1) ∙ ap (λ n. all_followers cs (i + 1) ++ all_followers ds n) e))

pub all-after : (cs ds : List Cmd) → all_followers (cs ++ ds) 0 ≡ all_followers cs 0 ++ all_followers ds (length cs)
all-after cs ds = let e : 0 + length cs ≡ length cs = omega arith in all-append cs ds 0 ∙ ap (λ n. all_followers cs 0 ++ all_followers ds n) e

tree-some : (o : Option (List Bool)) → all_but_first o ≡ true → is_some o ≡ true
tree-some None h = absurd (grind (arith, h))
tree-some (Some marks) h = refl

all-cons : (c : Cmd) (ds : List Cmd) (i : ℕ) (marks : List Bool) → is_some
    (reached marks (all_followers (c ∷ ds) i)) ≡ true → is_some
    (reached marks (followers c i ++ all_followers ds (i + 1))) ≡ true
unfolding all_followers
all-cons c ds i marks h = h

-- the followers of a command follow no later one
pub tree-apart : (cs : List Cmd) (c : Cmd) (ds : List Cmd) → is_tree (cs ++ c ∷ ds) ≡ true
    → (j : ℕ) → is_among j (followers c (length cs)) ≡ true → is_among j (all_followers ds (length cs + 1)) ≡ false
unfolding is_tree
tree-apart cs c ds h j m =
    let body = cs ++ c ∷ ds in
    let some = tree-some (reached (replicate (length body) false) (all_followers body 0)) h in
    let parts = subst (λ js. is_some (reached (replicate (length body) false) js) ≡ true) (all-after cs (c ∷ ds)) some in
    let later = reached-later (all_followers cs 0) (all_followers (c ∷ ds) (length cs)) (replicate (length body) false) parts in
    reached-apart (followers c (length cs)) (all_followers ds (length cs + 1)) later.0 j (all-cons c ds (length cs) later.0 later.1) m

-- two bodies whose commands have the same followers
pub same-tree : (cs ds : List Cmd) → length cs ≡ length ds → all_followers cs 0 ≡ all_followers ds 0 → is_tree cs ≡ is_tree ds
unfolding is_tree
same-tree cs ds n e = rw (n, e) refl
