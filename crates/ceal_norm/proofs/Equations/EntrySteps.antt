-- The lists and marks of which the entries are made.
use Rattle.std.proofs.Common.{◌≡◌, ◌⊎◌, inl, inr, ℕ, zero, suc, ◌+◌, ◌==◌, ◌<◌, ◌≤◌, Bool, true, false, ◌||◌, ◌&&◌}
use Rattle.std.proofs.Common.{if◌then◌else◌, nat_le, List, [], ◌∷◌, ◌++◌, length, take, get_or, replicate, refl, ap}
use Rattle.std.proofs.Common.{sym, ◌∙◌, arith, append-nil, append_assoc, add-one}
use Rattle.std.proofs.Math.Dec.{leb}
use Rattle.std.proofs.lemmas.Bool.{le-leb}
use Rattle.std.proofs.lemmas.Bool.Decides.{leb_tells}
use Rattle.std.proofs.lemmas.List.{take_more}
use Rattle.ceal_flow.specs.Paths.{jumps}
use Rattle.ceal_flow.specs.Program.{Graph}
use Rattle.ceal_flow.specs.Sets.{is_in}
use Rattle.ceal_flow.specs.declared.block.GraphBlock.{GraphBlock}
use Rattle.ceal_norm.specs.Entries.{continuations, all_continuations, all_jumps, count, is_entry, entries_before}
use Rattle.ceal_norm.specs.Table.{is_marked, table}
use Rattle.ceal_norm.proofs.Jumps.JumpCounts.{count-append}

pub continuations-none : all_continuations [] ≡ []
unfolding all_continuations
continuations-none = refl

pub continuations-end : (bs : List GraphBlock) → length bs ≡ 0 → all_continuations bs ≡ []
unfolding all_continuations
continuations-end [] h = refl
continuations-end (b ∷ bs) h = absurd (omega (arith, h))

pub continuations-cons : (b : GraphBlock) (bs : List GraphBlock) → all_continuations (b ∷ bs) ≡ continuations b ++ all_continuations bs
unfolding all_continuations
continuations-cons b bs = refl

pub ruleset continuation_steps = (continuations-none, continuations-end, continuations-cons, append-nil, append_assoc)

pub jumps-end : (bs : List GraphBlock) → length bs ≡ 0 → all_jumps bs ≡ []
unfolding all_jumps
jumps-end [] h = refl
jumps-end (b ∷ bs) h = absurd (omega (arith, h))

pub jumps-cons : (b : GraphBlock) (bs : List GraphBlock) → all_jumps (b ∷ bs) ≡ jumps b ++ all_jumps bs
unfolding all_jumps
jumps-cons b bs = refl

pub ruleset jump_steps = (jumps-end, jumps-cons, append-nil, append_assoc)

-- marks
pub marked-none : (n c : ℕ) → is_marked (replicate n false) c ≡ false
marked-none zero c = refl
marked-none (suc n) zero = refl
marked-none (suc n) (suc c) = marked-none n c

-- the table
pub table-none : (g : Graph) → table g 0 ≡ []
unfolding table
table-none g = refl

pub before-none : (g : Graph) → entries_before g 0 ≡ 0
unfolding entries_before
before-none g = refl

pub table-more : (g : Graph) (b : ℕ) → table g (b + 1) ≡ table g b ++ record { is_entry = is_entry g b; unit = entries_before g b } ∷ []
unfolding table
table-more g b = rw add-one refl

pub before-more : (g : Graph) (b : ℕ) → entries_before g (b + 1) ≡ (if is_entry g b then entries_before g b + 1 else entries_before g b)
unfolding entries_before
before-more g b = rw add-one refl

pub ruleset table_steps = (table-none, before-none, table-more, before-more)

-- one number more
pub in-more : (c : ℕ) (bs : List ℕ) (b : ℕ) → is_in c (bs ++ b ∷ []) ≡ (b == c || is_in c bs)
in-more c [] b = refl
in-more c (x ∷ xs) b = ap (λ t. x == c || t) (in-more c xs b) ∙ swapped (x == c) (b == c) (is_in c xs)
  where
    swapped : (p q r : Bool) → (p || (q || r)) ≡ (q || (p || r))
    swapped true true r = refl
    swapped true false r = refl
    swapped false q r = refl

pub in-take : (c : ℕ) (bs : List ℕ) (i b : ℕ) → i < length bs → is_in c (take (i + 1) bs) ≡ (get_or bs i b == c || is_in c (take i bs))
in-take c bs i b l = ap (is_in c) (take_more bs i b l) ∙ in-more c (take i bs) (get_or bs i b)

or-assoc : (p q r : Bool) → ((p || q) || r) ≡ (p || (q || r))
or-assoc true q r = refl
or-assoc false q r = refl

-- a mark more
pub in-marked : (c : ℕ) (bs : List ℕ) (i b : ℕ) (new old first : Bool) → i < length bs → b ≡ get_or bs i 0
    → new ≡ (b == c || old) → old ≡ (is_in c (take i bs) || first) → new ≡ (is_in c (take (i + 1) bs) || first)
in-marked c bs i b new old first l is h k =
    h ∙ ap (λ t. b == c || t) k ∙ sym (or-assoc (b == c) (is_in c (take i bs)) first)
    ∙ ap (λ t. t || first) (ap (λ x. x == c || is_in c (take i bs)) is ∙ sym (in-take c bs i 0 l))

count-one : (c b : ℕ) (n : ℕ) → n + count c (b ∷ []) ≡ (if b == c then n + 1 else n)
unfolding count
count-one c b n = go (b == c)
  where
    go : (t : Bool) → n + (if t then 0 + 1 else 0) ≡ (if t then n + 1 else n)
    go true = refl
    go false = omega arith

pub count-take : (c : ℕ) (bs : List ℕ) (i b : ℕ) → i < length bs
    → count c (take (i + 1) bs) ≡ (if get_or bs i b == c then count c (take i bs) + 1 else count c (take i bs))
count-take c bs i b l =
    ap (count c) (take_more bs i b l) ∙ count-append c (take i bs) (get_or bs i b ∷ [])
    ∙ count-one c (get_or bs i b) (count c (take i bs))

once-more : (t : Bool) (n : ℕ) → nat_le 1 (if t then n + 1 else n) ≡ (t || nat_le 1 n)
once-more true n = le-leb 1 (n + 1) (omega arith)
once-more false n = refl

-- a mark more of the first kind
pub once-marked : (c : ℕ) (bs : List ℕ) (i b : ℕ) (new old : Bool) → i < length bs → b ≡ get_or bs i 0
    → new ≡ (b == c || old) → old ≡ nat_le 1 (count c (take i bs)) → new ≡ nat_le 1 (count c (take (i + 1) bs))
once-marked c bs i b new old l is h k =
    h ∙ ap (λ t. b == c || t) k ∙ sym (once-more (b == c) (count c (take i bs)))
    ∙ ap (λ x. nat_le 1 (if x == c then count c (take i bs) + 1 else count c (take i bs))) is ∙ sym (ap (nat_le 1) (count-take c bs i 0 l))

twice-more : (t m first : Bool) (n : ℕ) → (t ≡ true → m ≡ nat_le 1 n) → ((t && m) || (nat_le 2 n || first)) ≡ (nat_le 2 (if t then n + 1 else n) || first)
twice-more false m first n h = refl
twice-more true m first n h = rw (h refl) (go (leb_tells 1 n))
  where
    go : ((leb 1 n ≡ true) × (1 ≤ n)) ⊎ ((leb 1 n ≡ false) × (n < 1)) → (nat_le 1 n || (nat_le 2 n || first)) ≡ (nat_le 2 (n + 1) || first)
    go (inl k) = let e : leb 2 (n + 1) ≡ true = le-leb 2 (n + 1) (omega (arith, k.1)) in rw (k.0, e) refl
    go (inr k) =
        let a : leb 2 n ≡ false = grind (arith, k.1) in
        let b : leb 2 (n + 1) ≡ false = grind (arith, k.1) in rw (k.0, a, b) refl

-- and of the second
pub twice-marked : (c : ℕ) (bs : List ℕ) (i b : ℕ) (new old mark first : Bool) → i < length bs → b ≡ get_or bs i 0
    → (b ≡ c → mark ≡ nat_le 1 (count c (take i bs)))
    → new ≡ ((b == c && mark) || old) → old ≡ (nat_le 2 (count c (take i bs)) || first)
    → new ≡ (nat_le 2 (count c (take (i + 1) bs)) || first)
twice-marked c bs i b new old mark first l is m h k =
    h ∙ ap (λ t. (b == c && mark) || t) k
    ∙ twice-more (b == c) mark first (count c (take i bs)) (λ e. m (grind (arith, e)))
    ∙ ap (λ t. t || first) (ap (λ x. nat_le 2 (if x == c then count c (take i bs) + 1 else count c (take i bs))) is ∙ sym (ap (nat_le 2) (count-take c bs i 0 l)))

pub count-none : (c : ℕ) → count c [] ≡ 0
unfolding count
count-none c = refl
