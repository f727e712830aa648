-- Groups, one of which changes.
use Rattle.std.proofs.Common.{◌≡◌, ◌≢◌, ◌<◌, ℕ, suc, zero, true, false, List, [], ◌∷◌, ◌++◌, length, set, Some, refl, sym, ap, ◌∙◌, arith, slice_get, slice_index_or, slice_set}
use Rattle.ceal_memo.specs.declared.chains.Group.{Group}
use Rattle.ceal_memo.specs.Lists.{has_stamps}
use Rattle.ceal_memo.specs.Chains.{group_at, lists_of, stamped}

-- what a group is, whatever is said of those that are not there
pub group_is : (gs : List Group) (n : ℕ) (d : Group) → n < length gs → slice_index_or gs n d ≡ group_at gs n
group_is [] n d within = absurd (omega arith)
group_is (g ∷ gs) zero d within = refl
group_is (g ∷ gs) (suc n) d within = group_is gs n d (omega arith)

module _ {X : Type 0} where
  pub set_here : (xs : List X) (n : ℕ) (x d : X) → n < length xs → slice_index_or (slice_set xs n x) n d ≡ x
  set_here [] n x d within = absurd (omega arith)
  set_here (y ∷ xs) zero x d within = refl
  set_here (y ∷ xs) (suc n) x d within = set_here xs n x d (omega arith)

  pub set_others : (xs : List X) (n : ℕ) (x d : X) (i : ℕ) → i ≢ n → slice_index_or (slice_set xs n x) i d ≡ slice_index_or xs i d
  set_others [] n x d i other = refl
  set_others (y ∷ xs) zero x d zero other = absurd (other refl)
  set_others (y ∷ xs) zero x d (suc i) other = refl
  set_others (y ∷ xs) (suc n) x d zero other = refl
  set_others (y ∷ xs) (suc n) x d (suc i) other = set_others xs n x d i (λ same. other (ap suc same))

  pub length_set : (xs : List X) (n : ℕ) (x : X) → length (slice_set xs n x) ≡ length xs
  length_set [] n x = refl
  length_set (y ∷ xs) zero x = refl
  length_set (y ∷ xs) (suc n) x = ap suc (length_set xs n x)

  pub set_again : (xs : List X) (n : ℕ) (x y : X) → set (set xs n x) n y ≡ set xs n y
  set_again [] n x y = refl
  set_again (z ∷ xs) zero x y = refl
  set_again (z ∷ xs) (suc n) x y = ap (λ (ys : List X). z ∷ ys) (set_again xs n x y)

  pub pushed_before : (xs : List X) (x d : X) (n : ℕ) → n < length xs → slice_index_or (xs ++ x ∷ []) n d ≡ slice_index_or xs n d
  pushed_before [] x d n within = absurd (omega arith)
  pushed_before (y ∷ xs) x d zero within = refl
  pushed_before (y ∷ xs) x d (suc n) within = pushed_before xs x d n (omega arith)

  pub length_pushed : (xs : List X) (x : X) → length (xs ++ x ∷ []) ≡ suc (length xs)
  length_pushed [] x = refl
  length_pushed (y ∷ xs) x = ap suc (length_pushed xs x)

-- ---- as lists

pub lists_set : (gs : List Group) (n : ℕ) (g : Group) → lists_of (slice_set gs n g) ≡ set (lists_of gs) n (g.hash, g.list)
lists_set [] n g = refl
lists_set (h ∷ gs) zero g = refl
lists_set (h ∷ gs) (suc n) g = ap (λ (ls : List (ℕ × List ℕ)). (h.hash, h.list) ∷ ls) (lists_set gs n g)

-- another link says nothing of the lists
pub lists_linked : (gs : List Group) (n : ℕ) (d : Group) (next : ℕ) →
    lists_of (slice_set gs n (record { hash = (slice_index_or gs n d).hash; next = next; list = (slice_index_or gs n d).list })) ≡ lists_of gs
lists_linked [] n d next = refl
lists_linked (g ∷ gs) zero d next = refl
lists_linked (g ∷ gs) (suc n) d next = ap (λ (ls : List (ℕ × List ℕ)). (g.hash, g.list) ∷ ls) (lists_linked gs n d next)

pub lists_push : (gs : List Group) (g : Group) → lists_of (gs ++ g ∷ []) ≡ lists_of gs ++ (g.hash, g.list) ∷ []
lists_push [] g = refl
lists_push (h ∷ gs) g = ap (λ (ls : List (ℕ × List ℕ)). (h.hash, h.list) ∷ ls) (lists_push gs g)

pub length_lists : (gs : List Group) → length (lists_of gs) ≡ length gs
length_lists [] = refl
length_lists (g ∷ gs) = ap suc (length_lists gs)

pub list_in : (gs : List Group) (n : ℕ) → n < length gs → slice_get (lists_of gs) n ≡ Some ((group_at gs n).hash, (group_at gs n).list)
list_in [] n within = absurd (omega arith)
list_in (g ∷ gs) zero within = refl
list_in (g ∷ gs) (suc n) within = list_in gs n (omega arith)

-- groups with the same lists have the same hashes and stamps
heads_hash : (a b : ℕ × List ℕ) (xs ys : List (ℕ × List ℕ)) → a ∷ xs ≡ b ∷ ys → a.0 ≡ b.0
heads_hash a b xs ys same = let heads : a ≡ b = cc in ap (λ (e : ℕ × List ℕ). e.0) heads

heads_list : (a b : ℕ × List ℕ) (xs ys : List (ℕ × List ℕ)) → a ∷ xs ≡ b ∷ ys → a.1 ≡ b.1
heads_list a b xs ys same = let heads : a ≡ b = cc in ap (λ (e : ℕ × List ℕ). e.1) heads

tails : (a b : ℕ × List ℕ) (xs ys : List (ℕ × List ℕ)) → a ∷ xs ≡ b ∷ ys → xs ≡ ys
tails a b xs ys same = cc

pub same_hash : (gs hs : List Group) → lists_of gs ≡ lists_of hs → (n : ℕ) → (group_at gs n).hash ≡ (group_at hs n).hash
same_hash [] [] same n = refl
same_hash [] (h ∷ hs) same n = cc
same_hash (g ∷ gs) [] same n = cc
same_hash (g ∷ gs) (h ∷ hs) same zero = heads_hash (g.hash, g.list) (h.hash, h.list) (lists_of gs) (lists_of hs) same
same_hash (g ∷ gs) (h ∷ hs) same (suc n) = same_hash gs hs (tails (g.hash, g.list) (h.hash, h.list) (lists_of gs) (lists_of hs) same) n

pub same_list : (gs hs : List Group) → lists_of gs ≡ lists_of hs → (n : ℕ) → (group_at gs n).list ≡ (group_at hs n).list
same_list [] [] same n = refl
same_list [] (h ∷ hs) same n = cc
same_list (g ∷ gs) [] same n = cc
same_list (g ∷ gs) (h ∷ hs) same zero = heads_list (g.hash, g.list) (h.hash, h.list) (lists_of gs) (lists_of hs) same
same_list (g ∷ gs) (h ∷ hs) same (suc n) = same_list gs hs (tails (g.hash, g.list) (h.hash, h.list) (lists_of gs) (lists_of hs) same) n

pub same_length : (gs hs : List Group) → lists_of gs ≡ lists_of hs → length gs ≡ length hs
same_length gs hs same = sym (length_lists gs) ∙ ap (λ (ls : List (ℕ × List ℕ)). length ls) same ∙ length_lists hs

pub same_stamped : (gs hs : List Group) → lists_of gs ≡ lists_of hs → (n : ℕ) → stamped gs n ≡ stamped hs n
same_stamped gs hs same n = ap has_stamps (same_list gs hs same n)

-- a group that is not there has no stamps
pub stamped_within : (gs : List Group) (n : ℕ) → stamped gs n ≡ true → n < length gs
stamped_within [] n is = cc
stamped_within (g ∷ gs) zero is = omega arith
stamped_within (g ∷ gs) (suc n) is = let within = stamped_within gs n is in omega arith

pub is_empty : (l : List ℕ) → has_stamps l ≡ false → l ≡ []
is_empty [] is = refl
is_empty (s ∷ ss) is = cc

pub is_some : (l : List ℕ) → has_stamps l ≡ true → l ≢ []
is_some [] is = cc
is_some (s ∷ ss) is = λ same. cc

pub some_is : (l : List ℕ) → l ≢ [] → has_stamps l ≡ true
some_is [] some = absurd (some refl)
some_is (s ∷ ss) some = refl
