-- Which indices of a body are reached, command by command.
use Rattle.std.proofs.Common.{◌≡◌, ℕ, ◌+◌, Bool, true, false, ◌&&◌, Option, Some, None, List, [], ◌∷◌, ◌++◌, refl, length, arith, slice_get, slice_set, unwrap_or, if◌then◌else◌, ap, ◌∙◌, replicate}
use Rattle.ceal_code.specs.Valid.{goes_forward, all_forward, reached, followers, all_followers, all_true, all_but_first, is_tree}
use Rattle.ceal_code.specs.declared.command.Cmd.{Cmd}

pub forward-cons : (c : Cmd) (cs : List Cmd) (i : ℕ) → all_forward (c ∷ cs) i ≡ (goes_forward c i && all_forward cs (i + 1))
unfolding all_forward
forward-cons c cs i = refl

pub forward-end : (cs : List Cmd) (i : ℕ) → length cs ≡ 0 → all_forward cs i ≡ true
unfolding all_forward
forward-end [] i h = refl
forward-end (c ∷ cs) i h = absurd (omega (arith, h))

pub reached-none : (marks : List Bool) → reached marks [] ≡ Some marks
unfolding reached
reached-none marks = refl

abbrev and_reached : Option (List Bool) → List ℕ → Option (List Bool)
and_reached None js = None
and_reached (Some marks) js = reached marks js

reached-if : (b : Bool) (marks : List Bool) (js ks : List ℕ) → reached marks (js ++ ks) ≡ and_reached (reached marks js) ks
    → (if b then None else reached marks (js ++ ks)) ≡ and_reached (if b then None else reached marks js) ks
reached-if true marks js ks h = refl
reached-if false marks js ks h = h

reached-append : (marks : List Bool) (js ks : List ℕ) → reached marks (js ++ ks) ≡ and_reached (reached marks js) ks
unfolding reached
reached-append marks [] ks = refl
reached-append marks (j ∷ js) ks =
    reached-if (unwrap_or (slice_get marks j) true) (slice_set marks j true) js ks (reached-append (slice_set marks j true) js ks)

-- an index that is there and not marked, and one that is not there or is
pub mark-new : (marks : List Bool) (j : ℕ) → unwrap_or (slice_get marks j) true ≡ false → reached marks (j ∷ []) ≡ Some (slice_set marks j true)
unfolding reached
mark-new marks j e = ap (λ b. if b then None else Some (slice_set marks j true)) e

pub mark-old : (marks : List Bool) (j : ℕ) → unwrap_or (slice_get marks j) true ≡ true → reached marks (j ∷ []) ≡ None
unfolding reached
mark-old marks j e = ap (λ b. if b then None else Some (slice_set marks j true)) e

-- after marks that are made, and where one is refused
pub reached-on : (marks marks' : List Bool) (js ks : List ℕ) → reached marks js ≡ Some marks' → reached marks (js ++ ks) ≡ reached marks' ks
reached-on marks marks' js ks e = reached-append marks js ks ∙ ap (λ o. and_reached o ks) e

pub reached-stop : (marks : List Bool) (js ks : List ℕ) → reached marks js ≡ None → reached marks (js ++ ks) ≡ None
reached-stop marks js ks e = reached-append marks js ks ∙ ap (λ o. and_reached o ks) e

pub both-on : (marks marks' : List Bool) (j k : ℕ) → reached marks (j ∷ []) ≡ Some marks' → reached marks (j ∷ k ∷ []) ≡ reached marks' (k ∷ [])
both-on marks marks' j k e = reached-on marks marks' (j ∷ []) (k ∷ []) e

pub both-stop : (marks : List Bool) (j k : ℕ) → reached marks (j ∷ []) ≡ None → reached marks (j ∷ k ∷ []) ≡ None
both-stop marks j k e = reached-stop marks (j ∷ []) (k ∷ []) e

pub walk-on : (marks marks' : List Bool) (c : Cmd) (cs : List Cmd) (i : ℕ) → reached marks (followers c i) ≡ Some marks'
    → reached marks (all_followers (c ∷ cs) i) ≡ reached marks' (all_followers cs (i + 1))
unfolding all_followers
walk-on marks marks' c cs i e = reached-on marks marks' (followers c i) (all_followers cs (i + 1)) e

pub walk-stop : (marks : List Bool) (c : Cmd) (cs : List Cmd) (i : ℕ) → reached marks (followers c i) ≡ None → reached marks (all_followers (c ∷ cs) i) ≡ None
unfolding all_followers
walk-stop marks c cs i e = reached-stop marks (followers c i) (all_followers cs (i + 1)) e

pub walk-end : (marks : List Bool) (cs : List Cmd) (i : ℕ) → length cs ≡ 0 → reached marks (all_followers cs i) ≡ Some marks
unfolding all_followers reached
walk-end marks [] i h = refl
walk-end marks (c ∷ cs) i h = absurd (omega (arith, h))

pub all-cons : (b : Bool) (bs : List Bool) → all_true (b ∷ bs) ≡ (b && all_true bs)
unfolding all_true
all-cons b bs = refl

pub all-end : (bs : List Bool) → length bs ≡ 0 → all_true bs ≡ true
unfolding all_true
all-end [] h = refl
all-end (b ∷ bs) h = absurd (omega (arith, h))

pub tree-is : (body : List Cmd) (marks : List Bool) → reached (replicate (length body) false) (all_followers body 0) ≡ Some marks → is_tree body ≡ all_but_first (Some marks)
unfolding is_tree
tree-is body marks e = ap all_but_first e

pub tree-not : (body : List Cmd) → reached (replicate (length body) false) (all_followers body 0) ≡ None → is_tree body ≡ false
unfolding is_tree
tree-not body e = ap all_but_first e

pub ruleset forward_steps = (forward-cons, forward-end)

pub ruleset mark_steps = (reached-none, mark-new, mark-old, both-on, both-stop)

pub ruleset all_steps = (all-cons, all-end)

pub ruleset walk_steps = (walk-on, walk-stop, walk-end)

pub ruleset tree_steps = (tree-is, tree-not)
